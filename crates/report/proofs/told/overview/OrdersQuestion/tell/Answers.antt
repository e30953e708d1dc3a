use Rattle.report.specs.Answers.{Answered}
use Rattle.report.proofs.Answering.{answers_told, answers_refused}
use Rattle.report.proofs.told.overview.OrdersQuestion.tell.Goals as goal
use Rattle.report.proofs.told.overview.OrdersQuestion.tell.Goals.{in-Ok, in-Err}

pub returns : goal.returns
returns g c =
    let t = c.args.session.now.trace in
    let it = c.args.self.now in
    let lines = c.of-lines in
    let told : Answered t it.p it.q it.list.now _ = record {
      unordered = lines.result.unordered.0;
      schedulable = lines.result.schedulable.0;
      vet = lines.result.vet.0;
      unordered_is = lines.ensures.unordered;
      schedulable_is = lines.ensures.schedulable;
      vet_is = lines.ensures.vet;
      text_is = c.in_ok-to_string.ensures.ok;
    } in
    elim c.match-lines.branch [
      | in-Ok w ↦ rw w.finding-is (answers_told t it.p it.q (rw w.in-Ok.is at lines.ensures.unordered) told)
      | in-Err w ↦ rw w.finding-is (answers_refused t it.p it.q (rw w.in-Err.is at lines.ensures.unordered) told)
    ]
