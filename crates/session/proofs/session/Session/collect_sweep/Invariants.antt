-- The pairs of the later positions so far are added.
use Rattle.std.proofs.Common.{List}
use Rattle.answer.specs.declared.verdict.RacePair.{RacePair}
use Rattle.answer.specs.Collectors.{Adds}
use Rattle.session.proofs.Sweeping.{SweepBelow}
use Rattle.session.proofs.session.Session.collect_sweep.Given as goal

abbrev pub invariant-loop-q : goal.invariant-loop-q
invariant-loop-q g l = (xs : List RacePair) × SweepBelow l.self.trace l.q xs × Adds xs l.initial.out l.out
