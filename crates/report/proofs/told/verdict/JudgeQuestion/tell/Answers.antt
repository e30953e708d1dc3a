use Rattle.report.proofs.Answering.{judged_race, judged_no_race, judged_refused}
use Rattle.report.proofs.told.verdict.JudgeQuestion.tell.Goals as goal
use Rattle.report.proofs.told.verdict.JudgeQuestion.tell.Goals.{in-Ok-Race+in_ok-from_str-in-Ok-Race, in-Ok-NoRace+in_ok-from_str-in-Ok-NoRace, in-Err+in_ok-refused_question-in-Err}

pub returns : goal.returns
returns g c =
    let t = c.args.session.now.trace in
    let p = c.args.self.now.p in
    let q = c.args.self.now.q in
    elim c.match-judge.branch [
      | in-Ok-Race+in_ok-from_str-in-Ok-Race w ↦
          rw (w.text-is, w.in_ok-from_str-in-Ok-Race.ensures.ok) (judged_race t p q (rw (w.in-Ok-Race.is, w.in-Ok-Race.field-0-is) at c.judge.ensures.races))
      | in-Ok-NoRace+in_ok-from_str-in-Ok-NoRace w ↦
          rw (w.text-is, w.in_ok-from_str-in-Ok-NoRace.ensures.ok) (judged_no_race t p q (rw (w.in-Ok-NoRace.is, w.in-Ok-NoRace.field-0-is) at c.judge.ensures.races))
      | in-Err+in_ok-refused_question-in-Err w ↦
          rw (w.text-is, w.in_ok-refused_question-in-Err.ensures, c.count-count.ensures, w.from.ensures)
          (judged_refused t p q (rw w.in-Err.is at c.judge.ensures.races))
    ]
