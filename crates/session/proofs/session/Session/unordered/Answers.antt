use Rattle.std.proofs.Common.{[], ◌∷◌, sym}
use Rattle.std.proofs.lemmas.Result.{err_from_is_err_and}
use Rattle.trace.specs.Cuts.{HappensBeforeWants}
use Rattle.trace.proofs.Orders.{happens_before_seed}
use Rattle.predict.specs.Held.{held}
use Rattle.session.proofs.Viewing.{trace_is}
use Rattle.session.specs.Questions.Answers.{refused, answered}
use Rattle.session.proofs.Asked.{asked, seed_within, lacks_not, outside_by, not_by}
use Rattle.session.proofs.session.Session.unordered.Goals as goal

pub returns-in_err-check_pair : goal.returns-in_err-check_pair
returns-in_err-check_pair g c =
    let p = err_from_is_err_and c.from_residual.result c.from_residual.ensures.1 in
    let n = sym c.in_err-check_pair.ensures in
    rw (p.1, p.2) (record { closure = refused n; order = refused n })

pub returns : goal.returns
returns g c =
    let same = trace_is c.self.view_is in
    let t = c.args.self.now.trace in
    let bounds = c.closure-before.result.bounds in
    let p = c.args.p in
    let q = c.args.q in
    let none = c.in_ok-check_pair.ensures in
    let a = asked t p q none in
    let ok = rw same at c.self.invariant.admitted in
    let k = (rw same at c.closure-before.ensures) ok (seed_within t q a.second a.second_is) in
    let outside = rw same at c.is_outside.ensures in
    record {
      closure = answered (sym none) (outside_by t bounds p a.first a.first_is _ outside HappensBeforeWants (q ∷ []) k.closure);
      order = answered (sym none) (not_by (lacks_not t bounds p a.first a.first_is _ outside) (happens_before_seed t q (held t bounds) k.closure k.reached p));
    }
