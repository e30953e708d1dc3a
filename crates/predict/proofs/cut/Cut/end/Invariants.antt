-- None of the bounds so far is higher.
use Rattle.std.proofs.Common.{ℕ, ◌<◌, ◌≤◌, get_or}
use Rattle.predict.proofs.cut.Cut.end.Given as goal

abbrev pub invariant-loop-bound : goal.invariant-loop-bound
invariant-loop-bound l = (p : ℕ) → p < l.bound-index → get_or l.bound-items p 0 ≤ l.end
