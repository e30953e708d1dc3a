-- The table tells of the events so far, and the outer acquires of the lock among them stand before the position.
use Rattle.std.proofs.Common.{take}
use Rattle.trace.specs.Checks.{Tells}
use Rattle.trace.specs.Reorderings.{picked}
use Rattle.reorder.specs.Comes.{AcquiredBefore}
use Rattle.reorder.proofs.vet.Reordering.acquired_before.Given as goal

abbrev pub invariant-loop-k : goal.invariant-loop-k
invariant-loop-k g l =
    let t = g.R.Reel.events l.self.reel.now in
    let xs = take l.k-index l.self.list.now in
    record { tells : Tells l.check (picked t xs); before : AcquiredBefore t xs l.position l.lock }
