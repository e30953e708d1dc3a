-- What was in stays in, and what the seeds bring in is all that comes in. Each turn leaves fewer positions outside.
use Rattle.std.proofs.Common.{ℕ, List, length}
use Rattle.trace.specs.Traces.{Admits}
use Rattle.trace.specs.Cuts.{Inside, AllReached}
use Rattle.predict.specs.Held.{held}
use Rattle.predict.proofs.Lacking.{lacking}
use Rattle.predict.proofs.closure.grown.Given as goal

abbrev pub invariant-loop-position : goal.invariant-loop-position
invariant-loop-position g l =
    let t = g.R.Reel.events l.reel in
    Inside (held t l.initial.cut.bounds) (held t l.cut.bounds)
    × ((ss : List ℕ) → Admits t → AllReached g.S.Rule.wants t ss (held t l.initial.cut.bounds) → AllReached g.S.Rule.wants t ss (held t l.cut.bounds))

abbrev pub decreases-loop-position : goal.decreases-loop-position
decreases-loop-position g l = let t = g.R.Reel.events l.reel in lacking (held t l.cut.bounds) (length t)
