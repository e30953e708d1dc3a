-- Nothing is missing in the locks so far, and in this lock so far.
use Rattle.std.proofs.Common.{◌≡◌, None}
use Rattle.trace.specs.Traces.{Admits}
use Rattle.predict.proofs.LockParts.{DepthAt, LatestAcquire, LocksSettled}
use Rattle.predict.proofs.locks.missing_release.Given as goal

abbrev pub invariant-search : goal.invariant-search
invariant-search g l = (l.missing ≡ None) × LocksSettled (g.R.Reel.events l.reel) l.cut.bounds l.ends l.lock

abbrev pub invariant-loop-k : goal.invariant-loop-k
invariant-loop-k g l =
    let t = g.R.Reel.events l.reel in
    record {
      none : l.missing ≡ None;
      depth : DepthAt l.lock t l.k l.depth;
      latest : Admits t → LatestAcquire t l.cut.bounds l.lock l.k l.latest;
    }
