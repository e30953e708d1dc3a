-- What a session is to its callers.
use Rattle.std.specs.Prelude.{ℕ, List}
use Rattle.trace.specs.declared.event.Event.{Event}

-- the trace so far, how many events it can have in all, what the bytes hold that a caller lends to its reel, and which loan they are
pub record State : Type 0 where
  pub trace : List Event
  pub room : ℕ
  pub lent : List ℕ
  pub loan : List ℕ
