-- The search goes on here as it started, and the depth is no more than the position.
use Rattle.std.proofs.Common.{◌≡◌, ◌-◌, ◌≤◌, length}
use Rattle.trace.specs.Lookups.{freeing}
use Rattle.predict.specs.Parts.{outer_release_of}
use Rattle.predict.proofs.lookup.release_of.Given as goal

abbrev pub invariant-loop-later : goal.invariant-loop-later
invariant-loop-later g l =
    let t = g.R.Reel.events l.reel in
    let a = l.acquire in
    (outer_release_of t l.position ≡ freeing a.thread a.subject t l.depth l.later (length t - l.later)) × (l.depth ≤ l.later)
