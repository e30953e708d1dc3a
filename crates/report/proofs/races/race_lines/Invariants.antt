-- The lines of the later positions so far, and how many they are; the buffer stays as long as the trace, and the pass stands at the next event.
use Rattle.std.proofs.Common.{◌≡◌, ◌*◌, ◌≤◌, List, length, drop, vec_len, string_bytes}
use Rattle.answer.specs.declared.verdict.RacePair.{RacePair}
use Rattle.reel.specs.Passing.{left_of}
use Rattle.session.proofs.Sweeping.{SweepBelow}
use Rattle.report.specs.Reports.{RaceLines}
use Rattle.report.proofs.races.race_lines.Given as goal

abbrev pub invariant-loop-position : goal.invariant-loop-position
invariant-loop-position g l =
    let t = l.session.trace in
    record {
      places : vec_len l.buffer ≡ length t;
      pairs : List RacePair;
      below : SweepBelow t l.position pairs;
      lines : RaceLines t pairs (string_bytes l.text);
      many : length pairs ≡ l.count;
      few : l.count ≤ 65535 * l.position;
      within : l.position ≤ length t;
      left : left_of g.R.Reel.events l.event-iterator ≡ drop l.position t;
    }
