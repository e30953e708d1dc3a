-- Each event wants nothing that is noted, or is noted, or what it wants is missing.
use Rattle.std.proofs.Common.{sym, arith}
use Rattle.reel.proofs.Left.{passes_some, passes_end}
use Rattle.predict.proofs.Bounds.{below_length, below_end}
use Rattle.predict.proofs.Inside.{seen_first}
use Rattle.predict.proofs.ThreadParts.{pass_start, pass_inside, pass_outside, pass_misses, pass_all}
use Rattle.predict.proofs.threads.missing_thread_event.Goals as goal
use Rattle.predict.proofs.threads.missing_thread_event.Goals.{then-holds+else-is_some, else-holds}

pub loop-k-init : goal.loop-k-init
loop-k-init g c = (
  pass_start (g.R.Reel.events c.args.reel.now) c.args.cut.now.bounds c.new-outside.result.spawns c.new-outside.result.latest
      c.new-outside.ensures.spawns c.new-outside.ensures.latest,
  c.iter-event-items.ensures,
)

pub overflow_step-k : goal.overflow_step-k
overflow_step-k g c =
    let reel = c.args.reel.now in
    let next = passes_some (g.R.Reel.events reel) c.loop-k.k c.in-Some.event _ _ c.loop-k.invariant.1 c.in-Some.ensures.steps in
    omega (arith, next.1, g.R.Reel.few reel, g.R.Reel.small reel)

pub returns-then-is_some : goal.returns-then-is_some
returns-then-is_some g c =
    let t = g.R.Reel.events c.args.reel.now in
    let bs = c.args.cut.now.bounds in
    let e = c.in-Some.event in
    let o = c.loop-k.outside in
    let inv = c.loop-k.invariant in
    let seen = seen_first t bs c.loop-k.k e _ _ inv.1 c.in-Some.ensures.steps c.holds.ensures in
    rw c.wanted-wanted.ensures (pass_misses t bs c.loop-k.k o.spawns o.latest e c.holds.result seen inv.0 c.if-holds.true (rw c.wanted-wanted.ensures at c.if-is_some.ensures))

pub loop-k-preserved : goal.loop-k-preserved
loop-k-preserved g c =
    let t = g.R.Reel.events c.args.reel.now in
    let bs = c.args.cut.now.bounds in
    let k = c.loop-k.k in
    let e = c.in-Some.event in
    let o = c.loop-k.outside in
    let inv = c.loop-k.invariant in
    let seen = seen_first t bs k e _ _ inv.1 c.in-Some.ensures.steps c.holds.ensures in (
      elim c.if-holds.branch [
        | then-holds+else-is_some w ↦
            rw w.outside-is (pass_inside t bs k o.spawns o.latest e c.holds.result seen inv.0 w.if-holds.true
            (rw w.wanted-wanted.ensures at w.if-is_some.ensures))
        | else-holds w ↦
            rw w.outside-is (pass_outside t bs k o.spawns o.latest e c.holds.result seen inv.0 w.note.new.self.spawns w.note.new.self.latest
            w.if-holds.false w.note.ensures.spawns w.note.ensures.latest)
      ],
      (passes_some t k e _ _ inv.1 c.in-Some.ensures.steps).2,
    )

pub returns-in-None : goal.returns-in-None
returns-in-None g c =
    let t = g.R.Reel.events c.args.reel.now in
    let bs = c.args.cut.now.bounds in
    let inv = c.loop-k.invariant in
    let o = c.loop-k.outside in
    pass_all t bs c.loop-k.k o.spawns o.latest (below_length t bs c.loop-k.k (passes_end t c.loop-k.k _ inv.1 c.in-None.ensures.steps.0)) inv.0

pub returns-then-k-end : goal.returns-then-k-end
returns-then-k-end g c =
    let t = g.R.Reel.events c.args.reel.now in
    let bs = c.args.cut.now.bounds in
    let inv = c.loop-k.invariant in
    let o = c.loop-k.outside in
    pass_all t bs c.loop-k.k o.spawns o.latest (below_end t bs c.loop-k.k c.end-end.result c.end-end.ensures (omega arith)) inv.0
