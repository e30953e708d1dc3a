use Rattle.std.proofs.Common.{sym, ◌∙◌}
use Rattle.std.proofs.lemmas.Bool.{false≢true}
use Rattle.trace.specs.Cuts.{SyncWants}
use Rattle.trace.proofs.Faults.{ok_refuses_none}
use Rattle.trace.proofs.Reached.{reached_more}
use Rattle.predict.specs.Held.{held}
use Rattle.predict.proofs.Inside.{lacks_inside}
use Rattle.answer.specs.Faults.{pair_number}
use Rattle.session.proofs.Viewing.{trace_is}
use Rattle.session.proofs.Asked.{asked, lacks_not}
use Rattle.session.proofs.Racing.{races_by, fewer_seeds, base_inside}
use Rattle.session.proofs.session.Session.races_beyond.Goals as goal

pub returns-then-not-is_outside : goal.returns-then-not-is_outside
returns-then-not-is_outside g c = λ base.
    let same = trace_is c.self.view_is in
    let t = c.args.self.now.trace in
    let p = c.args.p in
    let q = c.args.q in (
      λ f. absurd (false≢true f),
      λ racing. absurd
          (let a = asked t p q (sym racing.0) in
          base_inside t p q (held t c.args.base.now.bounds) base.closure
          (lacks_inside t c.args.base.now.bounds p a.first a.first_is (sym (rw same at c.if-not-is_outside.ensures))) racing.1),
    )

pub returns : goal.returns
returns g c = λ base.
    let same = trace_is c.self.view_is in
    let t = c.args.self.now.trace in
    let p = c.args.p in
    let q = c.args.q in
    let ok = rw same at c.self.invariant.admitted in
    let bounds = c.closure_before_from-before.result.bounds in
    let none = sym ((ok_refuses_none pair_number c.check_pair.result).0 c.if-is_err.ensures.negation) ∙ c.check_pair.ensures in
    let a = asked t p q none in
    let k = (rw same at c.closure_before_from-before.ensures) ok (λ n i. reached_more SyncWants t _ _ (fewer_seeds t p q) n (base.reached n i)) in
    let outside = lacks_not t bounds p a.first a.first_is _ (rw same at c.is_outside-2.ensures) in
    let races = races_by t p q ok a.below (held t bounds) k.closure in
    (λ yes. (sym none, races.0 (outside.0 yes)), λ racing. outside.1 (races.1 racing.1))
