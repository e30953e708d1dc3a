-- What becomes of one record, check by check.
use Rattle.std.proofs.Common.{◌≡◌, ℕ, ◌<◌, ◌≤◌, List, [], ◌∷◌, length, Ok, Err, sym, refl, ◌∙◌, append-nil, arith}
use Rattle.std.proofs.lemmas.Bool.{le-ltb}
use Rattle.trace.specs.declared.event.Event.{Event}
use Rattle.trace.specs.declared.check.TraceCheck.{TraceCheck}
use Rattle.trace.specs.declared.locks.TraceFault.{TraceFault}
use Rattle.trace.specs.Records.{meaning, record_of}
use Rattle.trace.specs.Traces.{at_start}
use Rattle.trace.specs.Checks.{Turned}
use Rattle.trace.proofs.Holders.{admits_push}
use Rattle.reel.specs.declared.ReelFault.{ReelFault}
use Rattle.reel.specs.declared.ReelFault.TheVariants.{Full}
use Rattle.reel.specs.Reels.{Taken}
use Rattle.reel.proofs.Reels.{has_room}
use Rattle.answer.specs.declared.fault.EntryFault.{EntryFault}
use Rattle.answer.specs.declared.fault.EntryFault.TheVariants.{Trace, Reel}
use Rattle.answer.specs.Faults.{refusal, at_index}
use Rattle.session.specs.States.{State}
use Rattle.reel.specs.Lent.{recorded_in}
use Rattle.reel.proofs.Lent.{lent_same}
use Rattle.session.specs.Entries.{offered, enter, Stands, Takes}

-- the state of a session
abbrev pub state : List Event → ℕ → List ℕ → List ℕ → State
state t room lent loan = record { trace = t; room = room; lent = lent; loan = loan }

module _ (room : ℕ) (t : List Event) (lent loan : List ℕ) (bytes : List ℕ) (u : List Event) (room_after : ℕ) (lent_after loan_after : List ℕ)
    (room_is : room_after ≡ room) (lent_is : lent_after ≡ recorded_in lent t u) (loan_is : loan_after ≡ loan) where
  -- a refused record leaves all as it was
  refused : (f : EntryFault) → u ≡ t → offered room t 0 bytes ≡ Err (refusal (at_index 0 f))
      → Takes (enter room t bytes) (state t room lent loan) bytes (Err (at_index 0 f)) (state u room_after lent_after loan_after)
  refused f same is =
      record {
        answer = rw is refl;
        events = rw is same;
        recorded = record { new = []; added = same ∙ sym (append-nil t); as_recorded = refl };
        admitted = λ a. rw same a;
        room = room_is;
        lent = lent_is;
        loan = loan_is;
      }

  module _ (table : TraceCheck) (s : Stands table t) (e : Event) (means : Ok e ≡ meaning bytes) (next : TraceCheck) (turned : Turned table e (Ok tt) next) where
    -- the reel is full
    pub no_room : (f : ReelFault) → Taken {A = Unit {0}} room t e (Err f) u
        → Takes (enter room t bytes) (state t room lent loan) bytes (Err (at_index 0 (Reel f))) (state u room_after lent_after loan_after)
    no_room f taken =
        let q = sym (turned.answer t s.tells) in
        let n = sym taken.answer in
        refused (Reel f) taken.events (rw (← means, q, n) refl)

    -- the event is taken
    pub taken_in : Taken {A = Unit {0}} room t e (Ok tt) u → record_of e ≡ bytes
        → Takes (enter room t bytes) (state t room lent loan) bytes (Ok tt) (state u room_after lent_after loan_after)
    taken_in taken back =
        let q = sym (turned.answer t s.tells) in
        let n = sym taken.answer in
        record {
          answer = rw (← means, q, n) refl;
          events = rw (← means, q, n) taken.events;
          recorded = record { new = e ∷ []; added = taken.events; as_recorded = rw (← back) refl };
          admitted = λ a. rw taken.events (admits_push at_start t e a q);
          room = room_is;
          lent = lent_is;
          loan = loan_is;
        }

-- the trace check turns the event away
pub turned_away : (s : State) (bytes : List ℕ) (table next : TraceCheck) (e : Event) (f : TraceFault) → Stands table s.trace → Ok e ≡ meaning bytes
    → Turned table e (Err f) next → Takes (enter s.room s.trace bytes) s bytes (Err (at_index 0 (Trace f))) s
turned_away s bytes table next e f stands means turned =
    let q = sym (turned.answer s.trace stands.tells) in
    refused s.room s.trace s.lent s.loan bytes s.trace s.room s.lent s.loan refl (lent_same s.lent s.trace) refl (Trace f) refl (rw (← means, q) refl)

-- the table stands with one event more
pub stands_more : (room : ℕ) (t : List Event) (table next : TraceCheck) (e : Event) (u : List Event) → Stands table t → Turned table e (Ok tt) next
    → Taken {A = Unit {0}} room t e (Ok tt) u → Stands next u
stands_more room t table next e u s turned taken =
    let q = sym (turned.answer t s.tells) in
    rw taken.events (record { admitted = admits_push at_start t e s.admitted q; tells = turned.tells t s.tells })

-- the trace check lets the event come, and the reel is full
pub no_more : (s : State) (bytes : List ℕ) (table next : TraceCheck) (e : Event) → Stands table s.trace → Ok e ≡ meaning bytes
    → Turned table e (Ok tt) next → s.room ≤ length s.trace → Takes (enter s.room s.trace bytes) s bytes (Err (at_index 0 (Reel Full))) s
no_more s bytes table next e stands means turned full =
    no_room s.room s.trace s.lent s.loan bytes s.trace s.room s.lent s.loan refl (lent_same s.lent s.trace) refl table stands e means next turned Full
    (record { answer = rw (le-ltb (length s.trace) s.room full) refl; events = refl })

-- where there is room an event is not refused
pub refused_room : (room : ℕ) (t : List Event) (e : Event) (f : ReelFault) (u : List Event) → length t < room → Taken {A = Unit {0}} room t e (Err f) u → ⊥
refused_room room t e f u left taken =
    let n = has_room room t left in
    let a = taken.answer in
    grind arith
