use Rattle.std.proofs.Common.{sym, refl, ◌∙◌, rules}
use Rattle.trace.specs.Traces.{At}
use Rattle.reorder.proofs.Agreeing.{answered}
use Rattle.reorder.proofs.Coming.{reorders_more}
use Rattle.reorder.proofs.vet.Reordering.goes_on.Goals as goal

pub invariant_of-self-2 : goal.invariant_of-self-2
invariant_of-self-2 g c =
    let s = c.args.self.now in
    let t = g.R.Reel.events s.reel.now in
    let is : At t c.args.position c.in-Some.event = sym c.event.ensures ∙ c.in-Some.is in
    let enabled = c.is_enabled.ensures.0 c.if-not-is_enabled.false in
    let next = answered t s.list.now c.args.position c.in-Some.event s.check c.turn.new.self c.turn.result is enabled
    ((c.agrees.ensures is enabled).0 c.if-not-agrees.false) s.told c.turn.ensures (search rules) in
    rw c.requires (record {
      reorders = reorders_more t s.list.now c.args.position s.reorders (next.right.0 refl);
      told = next.told c.turn.new.self refl;
    })

pub returns-clause-answered : goal.returns-clause-answered
returns-clause-answered g c =
    let s = c.args.self.now in
    let t = g.R.Reel.events s.reel.now in
    let is : At t c.args.position c.in-Some.event = sym c.event.ensures ∙ c.in-Some.is in
    let enabled = c.is_enabled.ensures.0 c.if-not-is_enabled.false in
    answered t s.list.now c.args.position c.in-Some.event s.check c.turn.new.self c.turn.result is enabled
    ((c.agrees.ensures is enabled).0 c.if-not-agrees.false) s.told c.turn.ensures (search rules)
