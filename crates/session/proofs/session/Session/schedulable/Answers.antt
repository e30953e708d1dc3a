use Rattle.std.proofs.Common.{[], ◌∷◌, sym}
use Rattle.std.proofs.lemmas.Result.{err_from_is_err_and}
use Rattle.trace.specs.Cuts.{SchedulableWants}
use Rattle.trace.proofs.Orders.{schedulable_before_seed}
use Rattle.predict.specs.Held.{held}
use Rattle.session.proofs.Viewing.{trace_is}
use Rattle.session.specs.Questions.Answers.{refused, answered}
use Rattle.session.proofs.Asked.{asked, lacks_not, outside_by, not_by, previous_within, scheduled_first, scheduled_by, not_scheduled_by}
use Rattle.session.proofs.session.Session.schedulable.Goals as goal

pub returns-in_err-check_pair : goal.returns-in_err-check_pair
returns-in_err-check_pair g c =
    let p = err_from_is_err_and c.from_residual.result c.from_residual.ensures.1 in
    let n = sym c.in_err-check_pair.ensures in
    rw (p.1, p.2) (record { closure = refused n; order = refused n })

pub returns-in-None : goal.returns-in-None
returns-in-None g c =
    let same = trace_is c.self.view_is in
    let none = c.in_ok-check_pair.ensures in
    let first = scheduled_first c.args.self.now.trace c.args.p c.args.q (rw same at c.in-None.ensures) in
    record { closure = answered (sym none) first.0; order = answered (sym none) first.1 }

pub returns-in-Some : goal.returns-in-Some
returns-in-Some g c =
    let same = trace_is c.self.view_is in
    let t = c.args.self.now.trace in
    let bounds = c.closure-before.result.bounds in
    let p = c.args.p in
    let q = c.args.q in
    let d = c.in-Some.last in
    let none = c.in_ok-check_pair.ensures in
    let a = asked t p q none in
    let is = rw same at c.in-Some.ensures in
    let ok = rw same at c.self.invariant.admitted in
    let k = (rw same at c.closure-before.ensures) ok (previous_within t q d is) in
    let outside = rw same at c.is_outside.ensures in
    record {
      closure = answered (sym none)
          (scheduled_by t p q _ d is (outside_by t bounds p a.first a.first_is _ outside SchedulableWants (d ∷ []) k.closure));
      order = answered (sym none)
          (not_scheduled_by t p q _ d is
          (not_by (lacks_not t bounds p a.first a.first_is _ outside) (schedulable_before_seed t d (held t bounds) k.closure k.reached p)));
    }
