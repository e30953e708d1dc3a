-- The positions so far are the first ones of the list, and a sync-preserving correct reordering.
use Rattle.std.proofs.Common.{◌≡◌, take}
use Rattle.reorder.specs.Comes.{Reorders}
use Rattle.reorder.proofs.vet.Reordering.of.Given as goal

abbrev pub invariant-loop-i : goal.invariant-loop-i
invariant-loop-i g l =
    let xs = take l.i l.list in
    record { reel : l.so_far.reel.now ≡ l.reel; list : l.so_far.list.now ≡ xs; reorders : Reorders (g.R.Reel.events l.reel) xs }
