use Rattle.std.proofs.Common.{◌≡◌, [], length, get_or, refl, ◌∙◌, arith}
use Rattle.reel.proofs.Lent.{recorded_on}
use Rattle.run.proofs.SoFar.{call_goes}
use Rattle.run.proofs.Upholding.{answering_long, turn_more, upholds, so_far_all}
use Rattle.run.proofs.perform.Goals as goal

pub loop-call-preserved : goal.loop-call-preserved
loop-call-preserved g c =
    let i = c.loop-call.invariant in
    let long = answering_long _ _ i.answering in
    let e = c.serve.ensures in
    let m = turn_more _ _ i.answering (omega arith) c.call-item.result i.room i.trace refl e.served e.trace refl in
    let goes = call_goes c.loop-call.session.room c.loop-call.session.trace (get_or c.loop-call.calls c.loop-call.call-index c.call-item.result) in
    let lent = recorded_on c.open-session.result.lent [] c.loop-call.session.trace goes.more refl (e.trace ∙ goes.is) i.lent e.lent in
    record { room = e.room ∙ i.room; trace = m.0; lent = lent; loan = e.loan ∙ i.loan; answering = m.1 }

pub returns-clause-calls : goal.returns-clause-calls
returns-clause-calls g c =
    let i = c.loop-call.invariant in
    let long = answering_long _ _ i.answering in
    rw (← c.open-session.ensures.room) (upholds _ _ i.answering (omega arith))
