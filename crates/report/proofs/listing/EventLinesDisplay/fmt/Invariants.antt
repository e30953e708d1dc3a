-- The lines of the events so far are written, the trace check tells of these events, and the pass stands at the next one.
use Rattle.std.proofs.Common.{◌≡◌, take, drop}
use Rattle.std.specs.Fmt.{HasWritten, IsPlainFormatter}
use Rattle.trace.specs.Checks.{Tells}
use Rattle.reel.specs.Passing.{left_of}
use Rattle.report.specs.Texts.{event_lines}
use Rattle.report.proofs.listing.EventLinesDisplay.fmt.Given as goal

abbrev pub invariant-loop-position : goal.invariant-loop-position
invariant-loop-position g l =
    let t = l.self.0.now.trace in
    (IsPlainFormatter l.initial.f → HasWritten g.W.Write.write_str_gives l.initial.f (event_lines t 0 (take l.position t)) l.f)
    × (left_of g.R.Reel.events l.event-iterator ≡ drop l.position t) × Tells l.check (take l.position t)
