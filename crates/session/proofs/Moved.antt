-- What becomes of a record of an input that is entered alone.
use Rattle.std.proofs.Common.{◌≡◌, ℕ, List, Some, None, Ok, Err, Option, Result, refl, ap, ◌∙◌}
use Rattle.trace.specs.declared.event.Event.{Event}
use Rattle.trace.specs.Faults.{told}
use Rattle.trace.specs.Records.{meaning}
use Rattle.trace.specs.Traces.{standing_after, trace_refusal}
use Rattle.reel.specs.Reels.{reel_refusal}
use Rattle.answer.specs.declared.fault.EntryRefusal.{EntryRefusal}
use Rattle.answer.specs.Faults.{Refusal, refusal, at_index}
use Rattle.session.specs.States.{State}
use Rattle.session.specs.Entries.{checked, offer, enter, Takes}

-- a refusal at another index
abbrev with_index : ℕ → Refusal → Refusal
with_index i f = record { number = f.number; layer = f.layer; index = i }

-- the same of a fault
abbrev pub moved : ℕ → EntryRefusal → EntryRefusal
moved i f = at_index i f.fault

module _ (room : ℕ) (t : List Event) (i : ℕ) where
  told_moved : (r : Result (Unit {0}) EntryRefusal) → told refusal (told (moved i) r) ≡ told (with_index i) (told refusal r)
  told_moved (Ok x) = refl
  told_moved (Err f) = refl

  checked_at : (m : Result Event ℕ) → checked room t i m ≡ told (with_index i) (checked room t 0 m)
  checked_at (Err n) = refl
  checked_at (Ok e) = by (trace_refusal (standing_after t) e) (reel_refusal room t) refl refl
    where
      by : (a b : Option ℕ) → trace_refusal (standing_after t) e ≡ a → reel_refusal room t ≡ b
          → checked room t i (Ok e) ≡ told (with_index i) (checked room t 0 (Ok e))
      by (Some n) b q r = rw q refl
      by None (Some n) q r = rw (q, r) refl
      by None None q r = rw (q, r) refl

  -- it is offered as record i, where its refusal has that index
  pub entered_at : {old new : State} (bytes : List ℕ) (r : Result (Unit {0}) EntryRefusal) → Takes (enter room t bytes) old bytes r new
      → Takes (offer room t i bytes) old bytes (told (moved i) r) new
  entered_at {old} {new} bytes r taken = by (checked room t 0 (meaning bytes)) r refl taken
    where
      by : (o : Result Event Refusal) (r : Result (Unit {0}) EntryRefusal) → checked room t 0 (meaning bytes) ≡ o → Takes (enter room t bytes) old bytes r new
          → Takes (offer room t i bytes) old bytes (told (moved i) r) new
      by (Ok e) r q k =
          let is : checked room t i (meaning bytes) ≡ Ok e = checked_at (meaning bytes) ∙ ap (told (with_index i)) q in
          let answer : told refusal r ≡ Ok tt = rw q at k.answer in
          let events = rw q at k.events in
          record {
            answer = rw is (told_moved r ∙ ap (told (with_index i)) answer);
            events = rw is events;
            recorded = k.recorded;
            admitted = k.admitted;
            room = k.room;
            lent = k.lent;
            loan = k.loan;
          }
      by (Err f) r q k =
          let is : checked room t i (meaning bytes) ≡ Err (with_index i f) = checked_at (meaning bytes) ∙ ap (told (with_index i)) q in
          let answer : told refusal r ≡ Err f = rw q at k.answer in
          let events = rw q at k.events in
          record {
            answer = rw is (told_moved r ∙ ap (told (with_index i)) answer);
            events = rw is events;
            recorded = k.recorded;
            admitted = k.admitted;
            room = k.room;
            lent = k.lent;
            loan = k.loan;
          }
