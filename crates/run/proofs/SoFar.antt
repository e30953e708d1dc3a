-- The trace so far grows, and the trace check admits it.
use Rattle.std.proofs.Common.{◌≡◌, ℕ, zero, suc, ◌+◌, ◌%◌, ◌≤◌, Bool, true, false, cond, eqb, List, [], ◌∷◌, ◌++◌, length, take, Some, None, Ok, Err, vec_items, fold, Option, Result, sym, refl, ap, ◌∙◌, subst, append_assoc, append-nil, arith}
use Rattle.trace.specs.declared.event.Event.{Event}
use Rattle.trace.specs.Records.{meaning}
use Rattle.trace.specs.Traces.{at_start, Allowed, Admits, standing_after, trace_refusal}
use Rattle.trace.proofs.Holders.{admits_push}
use Rattle.reel.specs.Reels.{reel_refusal}
use Rattle.answer.specs.declared.fault.Layer.TheVariants.{Trace, Reel}
use Rattle.run.specs.declared.Call.{Call}
use Rattle.run.specs.declared.Call.TheVariants.{Enter, Load, Judge, Witness, Partners, Sweep}
use Rattle.answer.specs.Faults.{Refusal}
use Rattle.session.specs.Entries.{Outcome, unless, checked, offered, then, enter_from, record_count, records, load}
use Rattle.run.specs.Runs.{trace_after, so_far}

-- the trace u goes on from t, and is admitted if t is
pub record Goes (t u : List Event) : Type 0 where
  pub more : List Event
  pub is : u ≡ t ++ more
  pub admitted : Admits t → Admits u

stays : (t : List Event) → Goes t t
stays t = record { more = []; is = sym (append-nil t); admitted = λ a. a }

goes_on : {t u v : List Event} → Goes t u → Goes u v → Goes t v
goes_on {t} g h = record {
  more = g.more ++ h.more;
  is = h.is ∙ ap (λ (es : List Event). es ++ h.more) g.is ∙ append_assoc t g.more h.more;
  admitted = λ a. h.admitted (g.admitted a);
}

-- an event that is offered and taken passes the trace check
offered_allowed : (room : ℕ) (t : List Event) (i : ℕ) (m : Result Event ℕ) (e : Event) → checked room t i m ≡ Ok e → Allowed (standing_after t) e
offered_allowed room t i (Err n) e is = absurd (grind arith)
offered_allowed room t i (Ok f) e is = by (trace_refusal (standing_after t) f) refl (reel_refusal room t) is
  where
    by : (o : Option ℕ) → trace_refusal (standing_after t) f ≡ o → (r : Option ℕ) → unless o Trace i (unless r Reel i (Ok f)) ≡ Ok e → Allowed (standing_after t) e
    by (Some n) q r h = absurd (grind arith)
    by None q (Some n) h = absurd (grind arith)
    by None q None h = let same : f ≡ e = cc in subst (Allowed (standing_after t)) same q

-- so each step goes on
module _ (room : ℕ) where
  then_goes : {A : Type 0} (t : List Event) (i : ℕ) (bytes : List ℕ) (next : List Event → Outcome A) → ((u : List Event) → Goes u (next u).events)
      → Goes t (then t (offered room t i bytes) next).events
  then_goes t i bytes next goes = by (offered room t i bytes) refl
    where
      by : (o : Result Event Refusal) → offered room t i bytes ≡ o → Goes t (then t o next).events
      by (Err f) q = stays t
      by (Ok e) q =
          goes_on (record { more = e ∷ []; is = refl; admitted = λ a. admits_push at_start t e a (offered_allowed room t i (meaning bytes) e q) })
          (goes (t ++ (e ∷ [])))

  from_goes : (t : List Event) (i : ℕ) (rs : List (List ℕ)) → Goes t (enter_from room t i rs).events
  from_goes t i [] = stays t
  from_goes t i (r ∷ rs) = then_goes t i r (λ u. enter_from room u (i + 1) rs) (λ u. from_goes u (i + 1) rs)

  load_goes : (t : List Event) (dump : List ℕ) → Goes t (load room t dump).events
  load_goes t dump = by (eqb (length dump % 8) 0) _ refl
    where
      by : (b : Bool) (o : Outcome ℕ) → o.events ≡ t → Goes t (cond b (enter_from room t 0 (records (record_count dump) dump)) o).events
      by true o is = from_goes t 0 (records (record_count dump) dump)
      by false o is = rw is (stays t)

  -- so does each call
  pub call_goes : (t : List Event) (c : Call) → Goes t (trace_after room t c)
  call_goes t (Enter bytes a) = then_goes t 0 (vec_items bytes) _ stays
  call_goes t (Load bytes a) = load_goes t (vec_items bytes)
  call_goes t (Judge p q a) = stays t
  call_goes t (Witness p q buffer a) = stays t
  call_goes t (Partners q buffer a) = stays t
  call_goes t (Sweep buffer a) = stays t

  -- from the trace after some calls to that after more
  folded_goes : (t : List Event) (rs : List Call) (i j : ℕ) → i ≤ j → Goes (fold (trace_after room) t (take i rs)) (fold (trace_after room) t (take j rs))
  folded_goes t rs zero zero h = stays t
  folded_goes t [] zero (suc j) h = stays t
  folded_goes t (r ∷ rs) zero (suc j) h = goes_on (call_goes t r) (folded_goes (trace_after room t r) rs zero j (omega arith))
  folded_goes t rs (suc i) zero h = absurd (omega arith)
  folded_goes t [] (suc i) (suc j) h = stays t
  folded_goes t (r ∷ rs) (suc i) (suc j) h = folded_goes (trace_after room t r) rs i j (omega arith)

  pub so_far_goes : (rs : List Call) (i j : ℕ) → i ≤ j → Goes (so_far room (take i rs)) (so_far room (take j rs))
  so_far_goes rs i j h = folded_goes [] rs i j h

  pub so_far_admitted : (rs : List Call) (i : ℕ) → Admits (so_far room (take i rs))
  so_far_admitted rs i = (folded_goes [] rs 0 i (omega arith)).admitted tt
