-- An event of the thread decides, and a spawn of it that the list lacks; each other position is passed.
use Rattle.trace.specs.Lookups.{spawns}
use Rattle.std.proofs.Common.{◌≡◌, ap, ◌-◌, rules, sym, refl, ◌∙◌, arith}
use Rattle.std.proofs.lemmas.Bool.{both_ways}
use Rattle.reorder.proofs.Before.{passed_none, passed_all, passed_event, passed_past, event_decides}
use Rattle.reorder.proofs.vet.Reordering.has_before.Goals as goal

pub loop-earlier-init : goal.loop-earlier-init
loop-earlier-init g c = passed_none (g.R.Reel.events c.args.self.now.reel.now) c.args.self.now.list.now c.args.position c.args.thread

pub returns-in-Some : goal.returns-in-Some
returns-in-Some g c =
    let s = c.args.self.now in
    event_decides (g.R.Reel.events s.reel.now) s.list.now c.args.position c.args.thread c.loop-earlier.earlier (c.loop-earlier.earlier - 1) (omega arith)
    (omega arith) c.loop-earlier.invariant s.reorders c.in-Some.event (sym c.event.ensures ∙ c.in-Some.is) (sym c.from.ensures ∙ c.if-from-thread.true)
    c.has.result c.has.ensures

pub loop-earlier-preserved-else-not-has : goal.loop-earlier-preserved-else-not-has
loop-earlier-preserved-else-not-has g c =
    let s = c.args.self.now in
    passed_event (g.R.Reel.events s.reel.now) s.list.now c.args.position c.args.thread c.loop-earlier.earlier (c.loop-earlier.earlier - 1) (omega arith)
    (omega arith) c.loop-earlier.invariant c.in-Some.event (sym c.event.ensures ∙ c.in-Some.is) (λ q. c.if-from-thread.false (c.from.ensures ∙ q))
    (λ q. c.has-then-is_spawn_of.ensures.0 c.if-not-has.false)

pub loop-earlier-preserved-else-is_spawn_of : goal.loop-earlier-preserved-else-is_spawn_of
loop-earlier-preserved-else-is_spawn_of g c =
    let s = c.args.self.now in
    let same : c.in-Some-2.event ≡ c.in-Some.event = cc in
    passed_event (g.R.Reel.events s.reel.now) s.list.now c.args.position c.args.thread c.loop-earlier.earlier (c.loop-earlier.earlier - 1) (omega arith)
    (omega arith) c.loop-earlier.invariant c.in-Some.event (sym c.event.ensures ∙ c.in-Some.is) (λ q. c.if-from-thread.false (c.from.ensures ∙ q))
    (λ q. absurd (both_ways c.is_spawn_of.result c.if-is_spawn_of.false (c.is_spawn_of.ensures ∙ ap (spawns c.args.thread) same ∙ q)))

pub loop-earlier-preserved : goal.loop-earlier-preserved
loop-earlier-preserved g c =
    let s = c.args.self.now in
    passed_past (g.R.Reel.events s.reel.now) s.list.now c.args.position c.args.thread c.loop-earlier.earlier (c.loop-earlier.earlier - 1) (omega arith)
    (omega arith) c.loop-earlier.invariant (search rules)

pub returns : goal.returns
returns g c =
    let s = c.args.self.now in
    (λ q. passed_all (g.R.Reel.events s.reel.now) s.list.now c.args.position c.args.thread (search rules), λ all. refl)
