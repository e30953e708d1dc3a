use Rattle.std.proofs.Common.{string_bytes, rules, arith}
use Rattle.report.proofs.Answering.{finds_none, finds_race}
use Rattle.report.proofs.told.races.race_report.Goals as goal
use Rattle.report.proofs.told.races.race_report.Goals.{then-count-eq0, else-count-eq0}

pub returns : goal.returns
returns g c =
    let t = c.args.session.now.trace in
    let s = rw (c.in_ok-races.count-is, c.in_ok-races.races-is) at c.in_ok-races.ensures in (
      record { races = string_bytes c.in_ok-races.races; count = c.in_ok-races.count; all = s; text_is = search rules },
      elim c.if-count-eq0.branch [
        | then-count-eq0 w ↦ rw w.finding-is (finds_none t s (let n = w.if-count-eq0 in omega arith))
        | else-count-eq0 w ↦ rw w.finding-is (finds_race t s (λ empty. let n = w.if-count-eq0 in omega arith))
      ],
    )
