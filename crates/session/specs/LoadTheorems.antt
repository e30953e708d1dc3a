-- What the calls that take records come to, above the steps by which their definitions say it. Every session has a trace that the trace check
-- admits and that is no longer than its room.
use Rattle.std.specs.Prelude.{◌≡◌, ℕ, ◌*◌, ◌/◌, ◌%◌, ◌<◌, ◌≤◌, ◌↔◌, List, [], ◌∷◌, ◌++◌, length, take, drop, Ok, Err, All}
use Rattle.std.specs.List.{flat_map}
use Rattle.trace.specs.declared.event.Event.{Event}
use Rattle.trace.specs.Records.{record_of}
use Rattle.trace.specs.Traces.{Admits}
use Rattle.answer.specs.declared.fault.Layer.TheVariants.{Record}
use Rattle.answer.specs.Faults.{Refusal}
use Rattle.session.specs.Entries.{Outcome, offered, enter, enter_all, load}

-- numbers that are bytes, as those of every dump are
abbrev pub AreBytes : List ℕ → Type 0
AreBytes bytes = All (λ b. b < 256) bytes

-- the events es can come after t: the trace check admits t with them behind it, and there is room for as many
abbrev pub CanFollow : ℕ → List Event → List Event → Type 0
CanFollow room t es = Admits (t ++ es) × (length (t ++ es) ≤ room)

-- the bytes are the records of n events, one after another, which can come after t
pub record AllCome (room : ℕ) (t : List Event) (bytes : List ℕ) (n : ℕ) : Type 0 where
  pub new : List Event
  pub many : length new ≡ n
  pub as_recorded : flat_map record_of new ≡ bytes
  pub follow : CanFollow room t new

-- of some bytes the events of the first records are taken after t, as many as the index of the refusal r says, and u are the events then; the next
-- record, which may be cut short where the bytes end, is what r refuses
pub record StopsAt (room : ℕ) (t : List Event) (bytes : List ℕ) (r : Refusal) (u : List Event) : Type 0 where
  pub new : List Event
  pub many : length new ≡ r.index
  pub added : u ≡ t ++ new
  pub as_recorded : flat_map record_of new ≡ take (8 * r.index) bytes
  pub follow : Admits t → length t ≤ room → CanFollow room t new
  pub more : 8 * r.index < length bytes
  pub refused : offered room (t ++ new) r.index (take 8 (drop (8 * r.index) bytes)) ≡ Err r

-- what a call comes to that takes the records of some bytes: by the room, the trace so far and the bytes
abbrev pub Taking : Type 0
Taking = ℕ → List Event → List ℕ → Outcome ℕ

-- a call takes all records just if it can: it answers n just if the bytes are the records of n events that can come after the trace so far
abbrev pub TakesAll : Taking → Type 0
TakesAll takes =
    (room n : ℕ) (t : List Event) (bytes : List ℕ) → AreBytes bytes → Admits t → length t ≤ room
    → ((takes room t bytes).answer ≡ Ok n) ↔ AllCome room t bytes n

-- and then the events are the trace so far and these
abbrev pub AddsAll : Taking → Type 0
AddsAll takes =
    (room : ℕ) (t : List Event) (bytes : List ℕ) (new : List Event) → flat_map record_of new ≡ bytes → CanFollow room t new
    → (takes room t bytes).events ≡ t ++ new

-- where Load refuses a dump of whole records, it stops at the record that is refused
abbrev pub LoadStops : Type 0
LoadStops = (room : ℕ) (t : List Event) (dump : List ℕ) (r : Refusal) → AreBytes dump → length dump % 8 ≡ 0 → (load room t dump).answer ≡ Err r
    → StopsAt room t dump r (load room t dump).events

-- a dump that is no whole number of records it refuses with 1 and the number of its whole records, and takes none
abbrev pub LoadMeasures : Type 0
LoadMeasures = (room : ℕ) (t : List Event) (dump : List ℕ) → (length dump % 8 ≡ 0 → ⊥)
    → load room t dump ≡ record { answer = Err (record { number = 1; layer = Record; index = length dump / 8 }); events = t }

-- Load refuses with 1 just where the length is eight times no whole number
abbrev pub LoadsWhole : Type 0
LoadsWhole =
    (room : ℕ) (t : List Event) (dump : List ℕ)
    → ((r : Refusal) × ((load room t dump).answer ≡ Err r) × (r.number ≡ 1)) ↔ (((n : ℕ) × (length dump ≡ 8 * n)) → ⊥)

-- where records are entered one after another, of any bytes, the first that is refused stops it
abbrev pub EnterAllStops : Type 0
EnterAllStops = (room : ℕ) (t : List Event) (bytes : List ℕ) (r : Refusal) → AreBytes bytes → (enter_all room t bytes).answer ≡ Err r
    → StopsAt room t bytes r (enter_all room t bytes).events

-- Enter takes a record just if it is that of an event which can come after the trace so far
abbrev pub EnterTakes : Type 0
EnterTakes = (room : ℕ) (t : List Event) (bytes : List ℕ) → AreBytes bytes → Admits t
    → ((enter room t bytes).answer ≡ Ok tt) ↔ ((e : Event) × (record_of e ≡ bytes) × CanFollow room t (e ∷ []))

-- and then the events are the trace so far and this one
abbrev pub EnterAdds : Type 0
EnterAdds = (room : ℕ) (t : List Event) (e : Event) → CanFollow room t (e ∷ []) → (enter room t (record_of e)).events ≡ t ++ (e ∷ [])

-- and where it refuses one, they stay
abbrev pub EnterKeeps : Type 0
EnterKeeps = (room : ℕ) (t : List Event) (bytes : List ℕ) (r : Refusal) → (enter room t bytes).answer ≡ Err r
    → ((enter room t bytes).events ≡ t) × (offered room t 0 bytes ≡ Err r)
