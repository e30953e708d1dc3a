-- The pass stands at the next event.
use Rattle.std.proofs.Common.{◌≡◌, drop}
use Rattle.reel.specs.Passing.{left_of}
use Rattle.predict.proofs.EarlierParts.{Pass}
use Rattle.predict.proofs.locks.missing_earlier_release.Given as goal

abbrev pub invariant-loop-k : goal.invariant-loop-k
invariant-loop-k g l =
    let t = g.R.Reel.events l.reel in
    Pass t l.cut.bounds l.k l.outside l.depths × (left_of g.R.Reel.events l.event-iterator ≡ drop l.k t)
