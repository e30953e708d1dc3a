-- The lines of the threads so far are written.
use Rattle.std.specs.Fmt.{HasWritten, IsPlainFormatter}
use Rattle.report.specs.Witnesses.{run_lines}
use Rattle.report.proofs.told.witness.RunLinesDisplay.fmt.Given as goal

abbrev pub invariant-loop-thread : goal.invariant-loop-thread
invariant-loop-thread g l =
    IsPlainFormatter l.initial.f
    → HasWritten g.W.Write.write_str_gives l.initial.f (run_lines l.self.session.now.trace l.self.positions.now l.thread) l.f
