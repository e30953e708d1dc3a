-- What the trace check keeps after lists of events, front and back.
use Rattle.std.proofs.Common.{◌≡◌, ℕ, true, false, ◌↔◌, List, [], ◌∷◌, ◌++◌, Some, None, Option, refl, ap, take, drop, arith, take-append-drop}
use Rattle.trace.specs.declared.event.Event.{Event}
use Rattle.trace.specs.declared.hold.Hold.{Hold}
use Rattle.trace.specs.declared.life.Life.{Life}
use Rattle.trace.specs.declared.kind.Kind.{Kind}
use Rattle.trace.specs.declared.kind.Kind.TheVariants.{Read, Write, Acquire, Release, Spawn, Join}
use Rattle.trace.specs.Limits.{on_lock}
use Rattle.trace.specs.Traces.{Holders, Lives, Standing, at_start, give, entered, left, turn, begin, name, after_event, after, lock_refusal, ended_refusal, thread_refusal, or_else, trace_refusal, Allowed, AdmitsFrom, Admits}
use Rattle.trace.specs.Checks.{SameStanding}

-- what touches no lock is turned away for none
pub off_lock : (k : Kind) (thread : ℕ) (hold : Option Hold) → on_lock k ≡ false → lock_refusal k thread hold ≡ None
off_lock Read thread hold q = refl
off_lock Write thread hold q = refl
off_lock Acquire thread hold q = absurd (grind arith)
off_lock Release thread hold q = absurd (grind arith)
off_lock Spawn thread hold q = refl
off_lock Join thread hold q = refl

-- of two refusals there is none just if there is neither
pub neither : (a b : Option ℕ) → or_else a b ≡ None → (a ≡ None) × (b ≡ None)
neither None b q = (refl, q)
neither (Some n) b q = absurd (grind arith)

pub from_neither : (a b : Option ℕ) → a ≡ None → b ≡ None → or_else a b ≡ None
from_neither a b p q = rw (p, q) refl

-- an event that is allowed is turned away neither for its thread, nor for the thread that it names, nor for its lock
pub record Lets (s : Standing) (e : Event) : Type 0 where
  pub living : ended_refusal (s.lives e.thread) ≡ None
  pub startable : thread_refusal e.kind e.thread e.subject (s.lives e.subject) ≡ None
  pub lock : lock_refusal e.kind e.thread (s.holders e.subject) ≡ None

pub lets : (s : Standing) (e : Event) → Allowed s e → Lets s e
lets s e a =
    let (living, rest) = neither (ended_refusal (s.lives e.thread)) _ a in
    let (startable, lock) = neither (thread_refusal e.kind e.thread e.subject (s.lives e.subject)) _ rest in
    record { living = living; startable = startable; lock = lock }

pub from_lets : (s : Standing) (e : Event) → Lets s e → Allowed s e
from_lets s e l =
    from_neither (ended_refusal (s.lives e.thread)) _ l.living
    (from_neither (thread_refusal e.kind e.thread e.subject (s.lives e.subject)) _ l.startable l.lock)

-- what is kept after a list is what is kept after its front and then its back
pub after_append : (s : Standing) (es fs : List Event) → after s (es ++ fs) ≡ after (after s es) fs
after_append s [] fs = refl
after_append s (e ∷ es) fs = after_append (after_event s e) es fs

-- what the trace check says of an event is by what is kept alone
pub same_refusal : (s u : Standing) (e : Event) → SameStanding s u → trace_refusal s e ≡ trace_refusal u e
same_refusal s u e same = cc (same.lives e.thread, same.lives e.subject, same.holders e.subject)

-- equal tables stay equal
same_give : {A : Type 0} (f g : ℕ → A) (at : ℕ) (x y : A) → ((m : ℕ) → f m ≡ g m) → x ≡ y → (m : ℕ) → give f at x m ≡ give g at y m
same_give f g at x y same q m = cc (same m, q)

pub same_turn : (k : Kind) (thread subject : ℕ) (h g : Holders) → ((l : ℕ) → h l ≡ g l) → (l : ℕ) → turn k thread subject h l ≡ turn k thread subject g l
same_turn Read thread subject h g same l = same l
same_turn Write thread subject h g same l = same l
same_turn Acquire thread subject h g same l = same_give h g subject _ _ same (ap (entered thread) (same subject)) l
same_turn Release thread subject h g same l = same_give h g subject _ _ same (ap left (same subject)) l
same_turn Spawn thread subject h g same l = same l
same_turn Join thread subject h g same l = same l

pub same_begin : (thread : ℕ) (h g : Lives) → ((p : ℕ) → h p ≡ g p) → (p : ℕ) → begin thread h p ≡ begin thread g p
same_begin thread h g same p = same_give h g thread _ _ same (ap (λ (x : Life). record x { begun = true }) (same thread)) p

pub same_name : (k : Kind) (subject : ℕ) (h g : Lives) → ((p : ℕ) → h p ≡ g p) → (p : ℕ) → name k subject h p ≡ name k subject g p
same_name Read subject h g same p = same p
same_name Write subject h g same p = same p
same_name Acquire subject h g same p = same p
same_name Release subject h g same p = same p
same_name Spawn subject h g same p = same_give h g subject _ _ same (ap (λ (x : Life). record x { named = true }) (same subject)) p
same_name Join subject h g same p =
    same_give h g subject _ _ same (ap (λ (x : Life). record { begun = x.begun; named = true; joined = true }) (same subject)) p

pub same_after_event : (s u : Standing) (e : Event) → SameStanding s u → SameStanding (after_event s e) (after_event u e)
same_after_event s u e same = record {
  holders = same_turn e.kind e.thread e.subject s.holders u.holders same.holders;
  lives = same_name e.kind e.subject (begin e.thread s.lives) (begin e.thread u.lives) (same_begin e.thread s.lives u.lives same.lives);
}

-- a list is admitted just if its front is, and its back from what is kept after its front
pub admits_append : (s : Standing) (es fs : List Event) → AdmitsFrom s (es ++ fs) ↔ (AdmitsFrom s es × AdmitsFrom (after s es) fs)
admits_append s [] fs = (λ a. (tt, a), λ a. a.1)
admits_append s (e ∷ es) fs =
    let rest = admits_append (after_event s e) es fs in
    (λ a. ((a.0, (rest.0 a.1).0), (rest.0 a.1).1), λ a. (a.0.0, rest.1 (a.0.1, a.1)))

-- a trace stays admitted with an event that the trace check lets come
pub admits_push : (s : Standing) (t : List Event) (e : Event) → AdmitsFrom s t → Allowed (after s t) e → AdmitsFrom s (t ++ (e ∷ []))
admits_push s t e a b = (admits_append s t (e ∷ [])).1 (a, (b, tt))

-- the first events of an admitted trace are admitted
pub admits_take : (t : List Event) (k : ℕ) → Admits t → Admits (take k t)
admits_take t k ok = ((admits_append at_start (take k t) (drop k t)).0 (rw (take-append-drop k t) ok)).0
