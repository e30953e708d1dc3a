-- Nothing is noted so far, the trace check admits the events of the cut so far, and the pass stands at the next event.
use Rattle.std.proofs.Common.{◌≡◌, drop, replicate}
use Rattle.trace.specs.Limits.{locks}
use Rattle.trace.specs.Traces.{Admits}
use Rattle.reel.specs.Passing.{left_of}
use Rattle.predict.proofs.ClashParts.{Checked}
use Rattle.predict.proofs.locks.search_ends.Given as goal

abbrev pub invariant-loop-k : goal.invariant-loop-k
invariant-loop-k g l =
    let t = g.R.Reel.events l.reel in
    record {
      none : l.ends ≡ replicate locks 0;
      checked : Admits t → Checked t l.cut.bounds l.k l.locks;
      next : left_of g.R.Reel.events l.event-iterator ≡ drop l.k t;
    }
