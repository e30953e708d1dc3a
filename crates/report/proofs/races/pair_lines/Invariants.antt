-- The lines of the partners so far.
use Rattle.std.proofs.Common.{map, take, string_bytes}
use Rattle.session.specs.Races.{pair}
use Rattle.report.specs.Reports.{RaceLines}
use Rattle.report.proofs.races.pair_lines.Given as goal

abbrev pub invariant-loop-partner : goal.invariant-loop-partner
invariant-loop-partner g l =
    RaceLines l.session.trace (map (λ p. pair p l.later.position) (take l.partner-index l.partners)) (string_bytes l.text)
