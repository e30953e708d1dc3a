-- A dump that is a whole number of records is never refused with 1.
use Rattle.std.proofs.Common.{◌≡◌, ℕ, zero, suc, ◌+◌, ◌*◌, ◌<◌, ◌≤◌, Bool, true, false, cond, List, [], ◌∷◌, ◌++◌, length, take, drop, Some, None, Ok, Err, Option, Result, refl, ap, ◌∙◌, arith, length-take, length-drop, nat_lt, ◌==◌, ◌||◌}
use mathlib.Core.Logic.{dite}
use native.Mathlib.Decide.{dec_lt}
use Rattle.std.proofs.lemmas.Bool.{eq-eqb}
use Rattle.trace.specs.declared.event.Event.{Event}
use Rattle.trace.specs.declared.hold.Hold.{Hold}
use Rattle.trace.specs.declared.kind.Kind.{Kind}
use Rattle.trace.specs.declared.life.Life.{Life}
use Rattle.trace.specs.declared.kind.Kind.TheVariants.{Read, Write, Acquire, Release, Spawn, Join}
use Rattle.trace.specs.Limits.{threads, subjects, deepest}
use Rattle.trace.specs.Records.{event_if_known, meaning}
use Rattle.trace.specs.Traces.{Standing, standing_after, ended_refusal, thread_refusal, lock_refusal, or_else, trace_refusal}
use Rattle.reel.specs.Reels.{reel_refusal}
use Rattle.answer.specs.declared.fault.Layer.TheVariants.{Trace, Reel}
use Rattle.answer.specs.Faults.{Refusal}
use Rattle.session.specs.Entries.{unless, checked, offered, then, records, enter_from}

-- it is no refusal with 1
abbrev NotOne : {A : Type 0} → Result A ℕ → Type 0
NotOne (Ok x) = Unit {0}
NotOne (Err n) = n ≡ 1 → ⊥

abbrev NotOneIf : Option ℕ → Type 0
NotOneIf None = Unit {0}
NotOneIf (Some n) = n ≡ 1 → ⊥

parts_not_one : (k : Kind) (t x i : ℕ) (d : Dec (t < threads)) (f : Dec (x < subjects k)) → NotOne
    (dite d (λ p. dite f (λ q. let e : Event = record { kind = k; thread = t; subject = x; site = i; known_thread = p; known_subject = q } in Ok e) (λ _. Err 4)) (λ _. Err 3))
parts_not_one k t x i (yes p) (yes q) = tt
parts_not_one k t x i (yes p) (no q) = λ e. omega arith
parts_not_one k t x i (no p) f = λ e. omega arith

known_not_one : (k : Option Kind) (t x i : ℕ) → NotOne (event_if_known k t x i)
known_not_one None t x i = λ e. omega arith
known_not_one (Some k) t x i = parts_not_one k t x i (dec_lt t threads) (dec_lt x (subjects k))

meaning_not_one : (bytes : List ℕ) → length bytes ≡ 8 → NotOne (meaning bytes)
meaning_not_one bytes long = rw (eq-eqb (length bytes) 8 long) (known_not_one _ _ _ _)

hold_not_one : (k : Kind) (thread : ℕ) (hold : Option Hold) → NotOneIf (lock_refusal k thread hold)
hold_not_one Read thread hold = tt
hold_not_one Write thread hold = tt
hold_not_one Acquire thread None = tt
hold_not_one Acquire thread (Some h) = by (h.thread == thread) (nat_lt h.depth deepest)
  where
    by : (b c : Bool) → NotOneIf (cond b (cond c None (Some 13)) (Some 5))
    by true true = tt
    by true false = λ e. omega arith
    by false c = λ e. omega arith
hold_not_one Release thread None = λ e. omega arith
hold_not_one Release thread (Some h) = by (h.thread == thread)
  where
    by : (b : Bool) → NotOneIf (cond b None (Some 6))
    by true = tt
    by false = λ e. omega arith
hold_not_one Spawn thread hold = tt
hold_not_one Join thread hold = tt

thread_not_one : (k : Kind) (thread subject : ℕ) (life : Life) → NotOneIf (thread_refusal k thread subject life)
thread_not_one Read thread subject life = tt
thread_not_one Write thread subject life = tt
thread_not_one Acquire thread subject life = tt
thread_not_one Release thread subject life = tt
thread_not_one Spawn thread subject life = by (thread == subject || (life.begun || life.named))
  where
    by : (b : Bool) → NotOneIf (cond b (Some 14) None)
    by true = λ e. omega arith
    by false = tt
thread_not_one Join thread subject life = by (thread == subject)
  where
    by : (b : Bool) → NotOneIf (cond b (Some 14) None)
    by true = λ e. omega arith
    by false = tt

ended_not_one : (life : Life) → NotOneIf (ended_refusal life)
ended_not_one life = by life.joined
  where
    by : (b : Bool) → NotOneIf (cond b (Some 15) None)
    by true = λ e. omega arith
    by false = tt

first_not_one : (a b : Option ℕ) → NotOneIf a → NotOneIf b → NotOneIf (or_else a b)
first_not_one None b x y = y
first_not_one (Some n) b x y = x

trace_not_one : (s : Standing) (e : Event) → NotOneIf (trace_refusal s e)
trace_not_one s e =
    first_not_one _ _ (ended_not_one (s.lives e.thread))
    (first_not_one _ _ (thread_not_one e.kind e.thread e.subject (s.lives e.subject)) (hold_not_one e.kind e.thread (s.holders e.subject)))

full_not_one : (b : Bool) → NotOneIf (cond b None (Some 7))
full_not_one true = tt
full_not_one false = λ e. omega arith

-- whatever a record of eight bytes is refused with
not_one : (room : ℕ) (t : List Event) (i : ℕ) (bytes : List ℕ) (r : Refusal) → length bytes ≡ 8 → offered room t i bytes ≡ Err r → r.number ≡ 1 → ⊥
not_one room t i bytes r long = by (meaning bytes) (meaning_not_one bytes long)
  where
    by_layers : (e : Event) (a b : Option ℕ) → NotOneIf a → NotOneIf b → unless a Trace i (unless b Reel i (Ok e)) ≡ Err r → r.number ≡ 1 → ⊥
    by_layers e None None x y is one = absurd (grind arith)
    by_layers e None (Some n) x y is one = let same : n ≡ r.number = grind arith in y (same ∙ one)
    by_layers e (Some n) b x y is one = let same : n ≡ r.number = grind arith in x (same ∙ one)

    by : (m : Result Event ℕ) → NotOne m → checked room t i m ≡ Err r → r.number ≡ 1 → ⊥
    by (Err n) x is one = let same : n ≡ r.number = grind arith in x (same ∙ one)
    by (Ok e) x is one =
        by_layers e (trace_refusal (standing_after t) e) (reel_refusal room t) (trace_not_one (standing_after t) e)
        (full_not_one (nat_lt (length t) room)) is one

-- where there are bytes enough for as many records
pub from_not_one : (room : ℕ) (n : ℕ) (bytes : List ℕ) (t : List Event) (i : ℕ) (r : Refusal) → 8 * n ≤ length bytes
    → (enter_from room t i (records n bytes)).answer ≡ Err r → r.number ≡ 1 → ⊥
from_not_one room zero bytes t i r long = λ is one. absurd (grind arith)
from_not_one room (suc n) bytes t i r long =
    by (λ u. from_not_one room n (drop 8 bytes) u (i + 1) r (omega (arith, length-drop 8 bytes))) (offered room t i (take 8 bytes)) refl
  where
    by : ((u : List Event) → (enter_from room u (i + 1) (records n (drop 8 bytes))).answer ≡ Err r → r.number ≡ 1 → ⊥) → (o : Result Event Refusal)
        → offered room t i (take 8 bytes) ≡ o → (then t o (λ u. enter_from room u (i + 1) (records n (drop 8 bytes)))).answer ≡ Err r → r.number ≡ 1 → ⊥
    by rest (Ok e) q is = rest (t ++ (e ∷ [])) is
    by rest (Err f) q is =
        let same : f ≡ r = grind arith in
        not_one room t i (take 8 bytes) r (omega (arith, length-take 8 bytes)) (q ∙ ap (λ (g : Refusal). Err g) same)
