-- The bytes so far are the front. Each turn reads some of what is still wanted.
use Rattle.std.proofs.Common.{◌≤◌, ◌-◌, vec_items, vec_len}
use Rattle.std.specs.Io.KnownBytes.{Consumes}
use Rattle.program.proofs.reading.read_front.Given as goal

abbrev pub invariant-loop-piece : goal.invariant-loop-piece
invariant-loop-piece g l =
    (vec_len l.front ≤ l.most) × Consumes (g.I.Read.remaining l.fn.input) (g.I.Read.remaining l.input) (vec_items l.front)

abbrev pub decreases-loop-piece : goal.decreases-loop-piece
decreases-loop-piece g l = l.most - vec_len l.front
