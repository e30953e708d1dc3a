use Rattle.std.proofs.Common.{refl, arith}
use Rattle.std.proofs.lemmas.Result.{err_from_is_err_and}
use Rattle.session.proofs.Entries.{taken_in, turned_away, no_more, refused_room, stands_more}
use Rattle.session.proofs.session.Session.take_record.Goals as goal

pub invariant_of-self-2 : goal.invariant_of-self-2
invariant_of-self-2 g c = stands_more _ _ _ _ _ _ c.self.invariant c.in_ok-turn-2.ensures c.in_ok-take.ensures.taken

pub invariant_of-self-in_err-take : goal.invariant_of-self-in_err-take
invariant_of-self-in_err-take g c = absurd (refused_room _ _ _ _ _ (omega arith) c.in_err-take.ensures.taken)

pub returns : goal.returns
returns g c =
    rw (← c.self.view_is)
    (taken_in _ _ _ _ _ _ _ _ _ c.take.ensures.same c.take.ensures.lent c.take.ensures.loan _ c.self.invariant _ c.in_ok-event.ensures.answer _
    c.in_ok-turn-2.ensures c.in_ok-take.ensures.taken (c.in_ok-event.ensures.back _ refl))

pub returns-then-count-capacity : goal.returns-then-count-capacity
returns-then-count-capacity g c =
    rw (c.from.ensures, ← c.self.view_is)
    (no_more _ _ _ _ _ c.self.invariant c.in_ok-event.ensures.answer c.in_ok-turn.ensures (omega arith))

pub returns-in_err-turn : goal.returns-in_err-turn
returns-in_err-turn g c =
    let e = err_from_is_err_and c.from_residual-in_err-turn.result c.from_residual-in_err-turn.ensures.1 in
    let stands = c.self.invariant in
    rw (e.1, e.2, ← c.self.view_is) (turned_away _ _ _ _ _ _ stands c.in_ok-event.ensures.answer c.in_err-turn.ensures)

pub returns-in_err-turn-2 : goal.returns-in_err-turn-2
returns-in_err-turn-2 g c =
    let e = err_from_is_err_and c.from_residual-in_err-turn-2.result c.from_residual-in_err-turn-2.ensures.1 in
    let stands = c.self.invariant in
    rw (e.1, e.2, ← c.self.view_is) (turned_away _ _ _ _ _ _ stands c.in_ok-event.ensures.answer c.in_err-turn-2.ensures)
