-- The seeds so far are in.
use Rattle.std.proofs.Common.{◌≡◌, fold}
use Rattle.predict.specs.Held.{taken_in}
use Rattle.predict.proofs.closure.with_seeds.Given as goal

abbrev pub invariant-loop-seed : goal.invariant-loop-seed
invariant-loop-seed g l = l.cut.bounds ≡ fold (taken_in (g.R.Reel.events l.reel)) l.initial.cut.bounds l.yielded
