use Rattle.std.proofs.Common.{refl}
use Rattle.std.proofs.lemmas.Result.{err_from_is_err_and}
use Rattle.trace.proofs.Checks.{turned_both, refused_thread, refused_lock}
use Rattle.trace.proofs.check.TraceCheck.turn.Goals as goal

pub returns : goal.returns
returns c =
    turned_both c.args.self.now c.args.event.now _ c.in_ok-check.ensures (c.in_ok-turn.ensures.answer) (c.in_ok-turn.ensures.then refl) c.note.ensures

pub returns-in_err-check : goal.returns-in_err-check
returns-in_err-check c =
    let e = err_from_is_err_and c.from_residual.result c.from_residual.ensures.1 in
    rw (e.1, e.2) (refused_thread c.args.self.now c.args.event.now c.in_err-check.field-0.0 c.in_err-check.ensures)

pub returns-in_err-turn : goal.returns-in_err-turn
returns-in_err-turn c =
    let e = err_from_is_err_and c.from_residual-in_err-turn.result c.from_residual-in_err-turn.ensures.1 in
    rw (e.1, e.2, c.in_err-turn.ensures.same refl)
    (refused_lock c.args.self.now c.args.event.now c.in_err-turn.field-0.0 c.in_ok-check.ensures c.in_err-turn.ensures.answer)
