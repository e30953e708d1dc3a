use Rattle.std.proofs.Common.{sym, rules, arith}
use Rattle.std.proofs.lemmas.Option.{slice_get_within}
use Rattle.reel.proofs.Left.{left_none, left_some, left_less}
use Rattle.reel.proofs.events.EventsIterator.next.Goals as goal

pub returns-in_err-event-clause-steps : goal.returns-in_err-event-clause-steps
returns-in_err-event-clause-steps g c =
    let none = left_none (g.R.Reel.events c.args.self.now.reel.now) c.args.self.now.next c.in_err-event.ensures in
    rw c.from_residual.ensures (none, none)

pub overflow_add-self : goal.overflow_add-self
overflow_add-self g c =
    let reel = c.args.self.now.reel.now in
    let inside = slice_get_within (g.R.Reel.events reel) c.args.self.now.next c.in_ok-event.event (sym c.in_ok-event.ensures) in
    omega (arith, inside, g.R.Reel.few reel, g.R.Reel.small reel)

pub returns-clause-steps : goal.returns-clause-steps
returns-clause-steps g c =
    left_some (g.R.Reel.events c.args.self.now.reel.now) c.args.self.now.next c.in_ok-event.event c.in_ok-event.ensures

pub returns-clause-goes : goal.returns-clause-goes
returns-clause-goes g c =
    let less = left_less (g.R.Reel.events c.args.self.now.reel.now) c.args.self.now.next c.in_ok-event.event c.in_ok-event.ensures in
    search rules
