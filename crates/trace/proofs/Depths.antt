-- How deep a thread is in a lock, by its own events and by who holds the lock.
use Rattle.std.proofs.Common.{◌≡◌, ℕ, suc, pred, ◌<◌, ◌≤◌, Bool, true, false, cond, eqb, ◌&&◌, List, [], ◌∷◌, Some, None, Option, sym, refl, ap, ◌∙◌, ⊎_elim, arith, fold}
use Rattle.std.specs.Prelude.{◌⊎◌, nat_lt}
use Rattle.std.proofs.Common.{inl, inr}
use Rattle.std.proofs.lemmas.Bool.{cases_eq, cases_lt, eq-eqb, ne_eqb, lt-ltb, le-ltb}
use Rattle.trace.specs.declared.event.Event.{Event}
use Rattle.trace.specs.declared.hold.Hold.{Hold}
use Rattle.trace.specs.declared.kind.Kind.{Kind}
use Rattle.trace.specs.declared.kind.Kind.TheVariants.{Read, Write, Acquire, Release, Spawn, Join}
use Rattle.trace.specs.Limits.{deepest}
use Rattle.trace.specs.Traces.{Standing, at_start, entered, left, turn, after_event, after, standing_after, lock_refusal, Allowed, AdmitsFrom, Admits, deeper, depth_with}
use Rattle.trace.specs.Depths.{depth_in, HeldAsDeep}
use Rattle.trace.proofs.Holders.{lets}

-- a lock that is held is held once at least
abbrev pub Deep : Option Hold → Type 0
Deep None = Unit {0}
Deep (Some h) = 0 < h.depth

one : (n : ℕ) → 0 < n → n ≤ 1 → n ≡ 1
one n a b = omega arith

-- what an allowed event of a lock does to the depth of each thread in it
module _ (thread : ℕ) (p : ℕ) where
  acquires_depth : (o : Option Hold) → lock_refusal Acquire thread o ≡ None → Deep o
      → (depth_in (entered thread o) p ≡ cond (eqb thread p) (suc (depth_in o p)) (depth_in o p)) × Deep (entered thread o)
  acquires_depth None q d = (⊎_elim (λ e. rw (eq-eqb thread p e) refl) (λ n. rw (ne_eqb thread p n) refl) (cases_eq thread p), omega arith)
  acquires_depth (Some h) q d = of_holder (cases_eq h.thread thread)
    where
      of_holder : (h.thread ≡ thread) ⊎ (h.thread ≡ thread → ⊥)
          → (depth_in (entered thread (Some h)) p ≡ cond (eqb thread p) (suc (depth_in (Some h) p)) (depth_in (Some h) p)) × Deep (entered thread (Some h))
      of_holder (inl own) = (
        ⊎_elim (λ e. rw (own, eq-eqb thread p e) (omega arith)) (λ n. rw (own, ne_eqb thread p n) refl) (cases_eq thread p),
        omega arith,
      )
      of_holder (inr other) = absurd (let z = ne_eqb h.thread thread other in let y = rw z at q in grind arith)

  releases_depth : (o : Option Hold) → lock_refusal Release thread o ≡ None → Deep o
      → (depth_in (left o) p ≡ cond (eqb thread p) (pred (depth_in o p)) (depth_in o p)) × Deep (left o)
  releases_depth None q d = absurd (grind arith)
  releases_depth (Some h) q d = of_holder (cases_eq h.thread thread)
    where
      of_holder : (h.thread ≡ thread) ⊎ (h.thread ≡ thread → ⊥)
          → (depth_in (left (Some h)) p ≡ cond (eqb thread p) (pred (depth_in (Some h) p)) (depth_in (Some h) p)) × Deep (left (Some h))
      of_holder (inl own) = ⊎_elim deeper_still last (cases_lt 1 h.depth)
        where
          deeper_still : 1 < h.depth
              → (depth_in (left (Some h)) p ≡ cond (eqb thread p) (pred (depth_in (Some h) p)) (depth_in (Some h) p)) × Deep (left (Some h))
          deeper_still g = rw (lt-ltb 1 h.depth g) (
            ⊎_elim (λ e. rw (own, eq-eqb thread p e) refl) (λ n. rw (own, ne_eqb thread p n) refl) (cases_eq thread p),
            omega arith,
          )

          last : h.depth ≤ 1
              → (depth_in (left (Some h)) p ≡ cond (eqb thread p) (pred (depth_in (Some h) p)) (depth_in (Some h) p)) × Deep (left (Some h))
          last g = let once : h.depth ≡ 1 = one h.depth d g in rw (le-ltb 1 h.depth g) (
            ⊎_elim (λ e. rw (own, eq-eqb thread p e, once) refl) (λ n. rw (own, ne_eqb thread p n) refl) (cases_eq thread p),
            tt,
          )
      of_holder (inr other) = absurd (let z = ne_eqb h.thread thread other in let y = rw z at q in grind arith)

-- an event that is on another lock leaves the depth of each thread
apart : (p l : ℕ) (e : Event) (n : ℕ) → (e.subject ≡ l → ⊥) → depth_with p l n e ≡ n
apart p l e n other = rw (ne_eqb e.subject l other) (both (eqb e.thread p))
  where
    both : (b : Bool) → cond (b && false) (deeper e.kind n) n ≡ n
    both true = refl
    both false = refl

-- one event more: the depth by who holds each lock goes as the depth by the thread's own events
module _ (s : Standing) (deep : (l : ℕ) → Deep (s.holders l)) (e : Event) (allowed : Allowed s e) where
  abbrev Stepped : ℕ → ℕ → Type 0
  Stepped p l =
      (depth_in ((after_event s e).holders l) p ≡ depth_with p l (depth_in (s.holders l) p) e) × Deep ((after_event s e).holders l)

  step : (p l : ℕ) → Stepped p l
  step p l = ⊎_elim here there (cases_eq l e.subject)
    where
      there : (l ≡ e.subject → ⊥) → Stepped p l
      there n = of_kind e.kind
        where
          of_kind : (k : Kind) → (depth_in (turn k e.thread e.subject s.holders l) p ≡ depth_with p l (depth_in (s.holders l) p) e)
              × Deep (turn k e.thread e.subject s.holders l)
          of_kind Read = (sym (apart p l e _ (λ q. n (sym q))), deep l)
          of_kind Write = (sym (apart p l e _ (λ q. n (sym q))), deep l)
          of_kind Acquire = rw (ne_eqb l e.subject n) (sym (apart p l e _ (λ q. n (sym q))), deep l)
          of_kind Release = rw (ne_eqb l e.subject n) (sym (apart p l e _ (λ q. n (sym q))), deep l)
          of_kind Spawn = (sym (apart p l e _ (λ q. n (sym q))), deep l)
          of_kind Join = (sym (apart p l e _ (λ q. n (sym q))), deep l)

      here : l ≡ e.subject → Stepped p l
      here q = rw (q, eq-eqb e.subject e.subject refl) (of_kind e.kind (lets s e allowed).lock)
        where
          same : (b : Bool) (n : ℕ) → cond (b && true) n n ≡ n
          same true n = refl
          same false n = refl

          simpler : (b : Bool) (m n : ℕ) → cond (b && true) m n ≡ cond b m n
          simpler true m n = refl
          simpler false m n = refl

          of_kind : (k : Kind) → lock_refusal k e.thread (s.holders e.subject) ≡ None
              → (depth_in (turn k e.thread e.subject s.holders e.subject) p
              ≡ cond (eqb e.thread p && true) (deeper k (depth_in (s.holders e.subject) p)) (depth_in (s.holders e.subject) p))
              × Deep (turn k e.thread e.subject s.holders e.subject)
          of_kind Read ok = (sym (same (eqb e.thread p) _), deep e.subject)
          of_kind Write ok = (sym (same (eqb e.thread p) _), deep e.subject)
          of_kind Spawn ok = (sym (same (eqb e.thread p) _), deep e.subject)
          of_kind Join ok = (sym (same (eqb e.thread p) _), deep e.subject)
          of_kind Acquire ok =
              let a = acquires_depth e.thread p (s.holders e.subject) ok (deep e.subject) in
              rw (eq-eqb e.subject e.subject refl) (a.0 ∙ sym (simpler (eqb e.thread p) _ _), a.1)
          of_kind Release ok =
              let a = releases_depth e.thread p (s.holders e.subject) ok (deep e.subject) in
              rw (eq-eqb e.subject e.subject refl) (a.0 ∙ sym (simpler (eqb e.thread p) _ _), a.1)

-- so after events that the trace check admits
run : (s : Standing) (es : List Event) → ((l : ℕ) → Deep (s.holders l)) → AdmitsFrom s es → (p l : ℕ)
    → (depth_in ((after s es).holders l) p ≡ fold (depth_with p l) (depth_in (s.holders l) p) es) × Deep ((after s es).holders l)
run s [] deep ok p l = (refl, deep l)
run s (e ∷ es) deep ok p l =
    let r = run (after_event s e) es (λ m. (step s deep e ok.0 p m).1) ok.1 p l in
    (r.0 ∙ ap (λ n. fold (depth_with p l) n es) (step s deep e ok.0 p l).0, r.1)

-- in an admitted trace the holder of a lock is the thread that is in it, as deep as its own acquires and releases say
pub held_as_deep : HeldAsDeep
held_as_deep t ok p l = (run at_start t (λ m. tt) ok p l).0

-- and a lock that is held is held once at least
pub held_deep : (t : List Event) → Admits t → (l : ℕ) → Deep ((standing_after t).holders l)
held_deep t ok l = (run at_start t (λ m. tt) ok 0 l).1

-- who holds a lock is in it
pub holder_in : (h : Hold) → depth_in (Some h) h.thread ≡ h.depth
holder_in h = rw (eq-eqb h.thread h.thread refl) refl

-- a release is allowed just to a thread that is in the lock
pub release_inside : (thread : ℕ) (o : Option Hold) → lock_refusal Release thread o ≡ None → Deep o → 0 < depth_in o thread
release_inside thread None q d = absurd (grind arith)
release_inside thread (Some h) q d = ⊎_elim (λ own. rw (eq-eqb h.thread thread own) d)
    (λ n. absurd (let z = ne_eqb h.thread thread n in let y = rw z at q in grind arith)) (cases_eq h.thread thread)

pub inside_release : (thread : ℕ) (o : Option Hold) → 0 < depth_in o thread → lock_refusal Release thread o ≡ None
inside_release thread None d = absurd (omega arith)
inside_release thread (Some h) d = ⊎_elim (λ own. rw (eq-eqb h.thread thread own) refl)
    (λ n. absurd (let z = ne_eqb h.thread thread n in let y = rw z at d in omega arith)) (cases_eq h.thread thread)

-- where a thread is in a lock, what the trace check says of its acquire is by its depth alone
pub acquire_inside : (thread : ℕ) (o : Option Hold) → 0 < depth_in o thread
    → lock_refusal Acquire thread o ≡ cond (nat_lt (depth_in o thread) deepest) None (Some 13)
acquire_inside thread None d = absurd (omega arith)
acquire_inside thread (Some h) d = ⊎_elim (λ own. rw (eq-eqb h.thread thread own) refl)
    (λ n. absurd (let z = ne_eqb h.thread thread n in let y = rw z at d in omega arith)) (cases_eq h.thread thread)

-- where it is not, its acquire is allowed just if the lock is free
pub acquire_outside : (thread : ℕ) (o : Option Hold) → lock_refusal Acquire thread o ≡ None → depth_in o thread ≡ 0 → Deep o → o ≡ None
acquire_outside thread None q d deep = refl
acquire_outside thread (Some h) q d deep = absurd (⊎_elim (λ own. let z = eq-eqb h.thread thread own in let y = rw z at d in omega arith)
    (λ n. let z = ne_eqb h.thread thread n in let y = rw z at q in grind arith) (cases_eq h.thread thread))
