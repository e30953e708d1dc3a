-- The bytes so far are at the front of the buffer.
use Rattle.std.proofs.Common.{◌≤◌, take, length}
use Rattle.std.specs.Io.KnownBytes.{Consumes}
use Rattle.program.proofs.reading.fill.Given as goal

abbrev pub invariant-loop : goal.invariant-loop
invariant-loop g l =
    (l.filled ≤ length l.buffer) × Consumes (g.I.Read.remaining l.fn.input) (g.I.Read.remaining l.input) (take l.filled l.buffer)
