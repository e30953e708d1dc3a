-- What an iterator over the events of a reel has left.
use Rattle.std.specs.Prelude.{List, drop}
use Rattle.trace.specs.declared.event.Event.{Event}
use Rattle.reel.specs.declared.events.Events.{Events}

-- the events from its position on, where each reel has some events
abbrev pub left_of : {R : Type 0} → (R → List Event) → Events R → List Event
left_of events s = drop s.next (events s.reel.now)
