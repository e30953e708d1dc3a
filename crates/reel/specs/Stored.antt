-- The events that stored records mean.
use Rattle.std.specs.Prelude.{ℕ, zero, suc, ◌+◌, ◌/◌, ◌≤◌, min, List, [], ◌∷◌, ◌++◌, length, take, drop, Ok, Err, Result}
use Rattle.std.proofs.Math.Nat.{min-le_right}
use Rattle.trace.specs.declared.event.Event.{Event}
use Rattle.trace.specs.Records.{meaning}

-- the list es, with an event before it if the record has one
abbrev with_event : Result Event ℕ → List Event → List Event
with_event (Ok e) es = e ∷ es
with_event (Err n) es = es

-- the events of the first n records, in their order; a record that means none is passed over
abbrev pub events_of : ℕ → List ℕ → List Event
events_of zero bytes = []
events_of (suc n) bytes = with_event (meaning (take 8 bytes)) (events_of n (drop 8 bytes))

-- the bytes, with those from a place on replaced
abbrev pub replaced : List ℕ → ℕ → List ℕ → List ℕ
replaced bytes at new = take at bytes ++ new ++ drop (at + length new) bytes

-- how many records so many bytes have room for
abbrev pub room_for : ℕ → ℕ
room_for size = min (size / 8) 65535

-- they are at most as many as a reel can have
pub room_small : (size : ℕ) → room_for size ≤ 65535
room_small size = min-le_right (size / 8) 65535

-- how many records these bytes have room for
abbrev pub room_in : List ℕ → ℕ
room_in bytes = room_for (length bytes)
