-- What becomes of records that are offered to a session: Enter and Load. A session has taken the events of a trace t, and has room for so
-- many events in all.
use Rattle.std.specs.Prelude.{◌≡◌, ℕ, zero, suc, ◌+◌, ◌*◌, ◌/◌, ◌%◌, cond, List, [], ◌∷◌, ◌++◌, length, take, drop, Some, None, Ok, Err, Option, Result, ◌==◌}
use Rattle.std.specs.List.{flat_map}
use Rattle.trace.specs.declared.event.Event.{Event}
use Rattle.trace.specs.declared.check.TraceCheck.{TraceCheck}
use Rattle.trace.specs.Faults.{told}
use Rattle.trace.specs.Records.{meaning, record_of}
use Rattle.trace.specs.Traces.{Admits, standing_after, trace_refusal}
use Rattle.trace.specs.Checks.{Tells}
use Rattle.reel.specs.Reels.{reel_refusal}
use Rattle.reel.specs.Lent.{recorded_in}
use Rattle.answer.specs.declared.fault.Layer.{Layer}
use Rattle.answer.specs.declared.fault.Layer.TheVariants.{Record, Trace, Reel}
use Rattle.answer.specs.declared.fault.EntryRefusal.{EntryRefusal}
use Rattle.answer.specs.Faults.{Refusal, refusal}
use Rattle.session.specs.States.{State}

-- the refusal of record i, if a layer gives its number; else what comes next
abbrev pub unless : {A : Type 0} → Option ℕ → Layer → ℕ → Result A Refusal → Result A Refusal
unless None layer i next = next
unless (Some n) layer i next = Err (record { number = n; layer = layer; index = i })

-- the event that a record means, if the trace check admits it and there is room
abbrev pub checked : ℕ → List Event → ℕ → Result Event ℕ → Result Event Refusal
checked room t i (Err n) = Err (record { number = n; layer = Record; index = i })
checked room t i (Ok e) = unless (trace_refusal (standing_after t) e) Trace i (unless (reel_refusal room t) Reel i (Ok e))

-- what becomes of record i of a call: its event is taken, or the first check that fails refuses it
abbrev pub offered : ℕ → List Event → ℕ → List ℕ → Result Event Refusal
offered room t i bytes = checked room t i (meaning bytes)

-- what a call comes to that takes records: its answer, and the events then
pub record Outcome (A : Type 0) : Type 0 where
  pub answer : Result A Refusal
  pub events : List Event

-- with the event more, and then what comes next; or refused, and the events stay
abbrev pub then : {A : Type 0} → List Event → Result Event Refusal → (List Event → Outcome A) → Outcome A
then t (Ok e) next = next (t ++ (e ∷ []))
then t (Err f) next = record { answer = Err f; events = t }

-- record i of a call is offered
abbrev pub offer : ℕ → List Event → ℕ → List ℕ → Outcome (Unit {0})
offer room t i bytes = then t (offered room t i bytes) (λ u. record { answer = Ok tt; events = u })

-- Enter offers one record
abbrev pub enter : ℕ → List Event → List ℕ → Outcome (Unit {0})
enter room t bytes = offer room t 0 bytes

-- the first n records of some bytes
abbrev pub records : ℕ → List ℕ → List (List ℕ)
records zero bytes = []
records (suc n) bytes = take 8 bytes ∷ records n (drop 8 bytes)

-- how many records some bytes have, where the last may be cut short
abbrev pub record_count : List ℕ → ℕ
record_count bytes = (length bytes + 7) / 8

-- the records from record i on are offered one after another, up to the first that is refused
abbrev pub enter_from : ℕ → List Event → ℕ → List (List ℕ) → Outcome ℕ
enter_from room t i [] = record { answer = Ok i; events = t }
enter_from room t i (r ∷ rs) = then t (offered room t i r) (λ u. enter_from room u (i + 1) rs)

-- all records of some bytes are offered, the last perhaps cut short
abbrev pub enter_all : ℕ → List Event → List ℕ → Outcome ℕ
enter_all room t bytes = enter_from room t 0 (records (record_count bytes) bytes)

-- Load offers the records of a dump; one that is no whole number of records is refused first, with the number of its whole records as the index
abbrev pub load : ℕ → List Event → List ℕ → Outcome ℕ
load room t dump =
    cond (length dump % 8 == 0) (enter_all room t dump)
    (record { answer = Err (record { number = 1; layer = Record; index = length dump / 8 }); events = t })

-- the events u are those of t and then those of the first records of the bytes
pub record Recorded (t : List Event) (bytes : List ℕ) (u : List Event) : Type 0 where
  pub new : List Event
  pub added : u ≡ t ++ new
  pub as_recorded : flat_map record_of new ≡ take (8 * length new) bytes

-- the trace check admits the events, and its tables keep what is kept at their end
pub record Stands (check : TraceCheck) (t : List Event) : Type 0 where
  pub admitted : Admits t
  pub tells : Tells check t

-- a call that takes records from these bytes answers so, and then the session has these events, which the trace check admits as it admits those
-- of every session, and as much room as before; of the lent bytes the records of the events that came are written, each in its place
pub record Takes {A : Type 0} (outcome : Outcome A) (old : State) (bytes : List ℕ) (r : Result A EntryRefusal) (new : State) : Type 0 where
  pub answer : told refusal r ≡ outcome.answer
  pub events : new.trace ≡ outcome.events
  pub recorded : Recorded old.trace bytes new.trace
  pub admitted : Admits old.trace → Admits new.trace
  pub room : new.room ≡ old.room
  pub lent : new.lent ≡ recorded_in old.lent old.trace new.trace
  pub loan : new.loan ≡ old.loan
