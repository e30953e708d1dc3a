-- What becomes of records that are offered to a session.
use Rattle.std.specs.Prelude.{ℕ, List, [], ◌∷◌, Ok, Err, Result}
use Rattle.trace.specs.declared.event.Event.{Event}
use Rattle.trace.specs.declared.kind.Kind.TheVariants.{Read, Write, Acquire}
use Rattle.trace.specs.declared.check.TraceCheck.{TraceCheck}
use Rattle.trace.specs.Records.{record_of}
use Rattle.reel.specs.declared.ReelFault.TheVariants.{Full}
use Rattle.answer.specs.declared.fault.EntryFault.{EntryFault}
use Rattle.answer.specs.declared.fault.EntryFault.TheVariants.{Reel as ByReel}
use Rattle.answer.specs.declared.fault.EntryRefusal.{EntryRefusal}
use Rattle.answer.specs.Faults.{at_index}
use Rattle.session.specs.States.{State}
use Rattle.session.specs.Entries.{enter, Recorded, Stands, Takes}
use Rattle.cases.specs.Examples.{event}
use Rattle.relations.specs.Traces.{at_first, held_by}

-- a session with room for one event, which is lent eight bytes that hold so
abbrev with_room : List Event → List ℕ → State
with_room t lent = record { trace = t; room = 1; lent = lent; loan = 0 ∷ [] }

-- bytes of which no record was made
abbrev pub blank : List ℕ
blank = 9 ∷ 9 ∷ 9 ∷ 9 ∷ 9 ∷ 9 ∷ 9 ∷ 9 ∷ []

-- Enter says of the record of a write that it is taken, by a session that has these events then, and these bytes
abbrev EntersWrite : List Event → List ℕ → Type 0
EntersWrite after lent =
    let e = event Write 0 0 tt tt in
    let taken : Result (Unit {0}) EntryRefusal = Ok tt in
    Takes (enter 1 [] (record_of e)) (with_room [] blank) (record_of e) taken (with_room after lent)

-- Enter takes the event, and its record is in the lent bytes; wrong: it says so and drops it, it says so and takes another, and the bytes stay
abbrev pub EventTaken : Type 0
EventTaken =
    let e = event Write 0 0 tt tt in
    EntersWrite (e ∷ []) (record_of e) × (EntersWrite [] blank → ⊥) × (EntersWrite (event Write 1 0 tt tt ∷ []) (record_of e) → ⊥)
    × (EntersWrite (e ∷ []) blank → ⊥)

-- a session with no room
abbrev full_with : List Event → List ℕ → State
full_with t lent = record { trace = t; room = 0; lent = lent; loan = 0 ∷ [] }

-- a full session answers so to the record of a write, and has these events then, and these bytes
abbrev RefusesWrite : EntryFault → ℕ → List Event → List ℕ → Type 0
RefusesWrite fault index after lent =
    let e = event Write 0 0 tt tt in
    let refusal : Result (Unit {0}) EntryRefusal = Err (at_index index fault) in
    Takes (enter 0 [] (record_of e)) (full_with [] blank) (record_of e) refusal (full_with after lent)

-- a full session refuses a record with 7 and stays as it was; wrong: it has the event then, the refusal names another record, and the record is
-- in the lent bytes
abbrev pub FullRefuses : Type 0
FullRefuses =
    let e = event Write 0 0 tt tt in
    RefusesWrite (ByReel Full) 0 [] blank × (RefusesWrite (ByReel Full) 0 (e ∷ []) blank → ⊥) × (RefusesWrite (ByReel Full) 1 [] blank → ⊥)
    × (RefusesWrite (ByReel Full) 0 [] (record_of e) → ⊥)

-- the event is the one of the record; wrong: a read recorded as a write
abbrev pub RecordedAsRead : Type 0
RecordedAsRead =
    let e = event Write 0 0 tt tt in
    Recorded [] (record_of e) (e ∷ []) × (Recorded [] (record_of e) (event Read 0 0 tt tt ∷ []) → ⊥)

-- what a session keeps before and after an acquire; wrong: one that keeps what is kept after a shorter trace
abbrev pub StandsUpToDate : Type 0
StandsUpToDate =
    let e = event Acquire 0 0 tt tt in
    Stands at_first [] × Stands (held_by 0) (e ∷ []) × ((check : TraceCheck) → Stands check [] → Stands check (e ∷ []) → ⊥)
