-- From here to the position there is no event of the thread, and each spawn of it is in the list.
use Rattle.reorder.proofs.Before.{Passed}
use Rattle.reorder.proofs.vet.Reordering.has_before.Given as goal

abbrev pub invariant-loop-earlier : goal.invariant-loop-earlier
invariant-loop-earlier g l = Passed (g.R.Reel.events l.self.reel.now) l.self.list.now l.fn.position l.thread l.earlier
