use Rattle.std.proofs.Common.{sym}
use Rattle.std.proofs.lemmas.Result.{err_from_is_err_and}
use Rattle.session.proofs.Viewing.{trace_is}
use Rattle.session.specs.Questions.Answers.{refused, answered}
use Rattle.session.proofs.session.Session.vet.Goals as goal

pub returns-in_err-check_pair : goal.returns-in_err-check_pair
returns-in_err-check_pair g c =
    let p = err_from_is_err_and c.from_residual.result c.from_residual.ensures.1 in
    rw (p.1, p.2) (refused (sym c.in_err-check_pair.ensures))

pub returns : goal.returns
returns g c =
    let same = trace_is c.self.view_is in
    answered (sym c.in_ok-check_pair.ensures) (rw same at c.leaves.ensures)
