-- The positions so far that the cut has are added, and the pass stands at the next event.
use Rattle.std.proofs.Common.{◌≡◌, ◌≤◌, length, drop}
use Rattle.trace.specs.Cuts.{listed}
use Rattle.reel.specs.Passing.{left_of}
use Rattle.predict.specs.Held.{held}
use Rattle.answer.specs.Collectors.{Adds}
use Rattle.session.proofs.session.Session.collect_cut.Given as goal

abbrev pub invariant-loop-position : goal.invariant-loop-position
invariant-loop-position g l =
    Adds (listed (held l.self.trace l.cut.bounds) l.position) l.initial.out l.out
    × (left_of g.R.Reel.events l.event-iterator ≡ drop l.position l.self.trace)
    × (l.position ≤ length l.self.trace)
