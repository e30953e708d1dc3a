use Rattle.std.proofs.Common.{refl, arith}
use Rattle.std.proofs.lemmas.Result.{err_from_is_err_and}
use Rattle.session.specs.Races.Partnered.{refused, written}
use Rattle.session.proofs.session.Session.partners.Goals as goal

pub returns-then-q-count : goal.returns-then-q-count
returns-then-q-count g c = refused refl (omega arith)

pub returns-in_err-write_partners : goal.returns-in_err-write_partners
returns-in_err-write_partners g c =
    let p = err_from_is_err_and c.from_residual.result c.from_residual.ensures.1 in
    let h = c.in_err-write_partners.ensures in
    rw (p.1, p.2) (written (omega arith) h.1 h.2)

pub returns : goal.returns
returns g c = let h = c.in_ok-write_partners.ensures in written (omega arith) h.1 h.2
