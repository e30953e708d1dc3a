-- How deep a thread is in a lock as the trace goes on: where it gets into the lock and where it frees it.
use Rattle.std.proofs.Common.{◌≡◌, ℕ, zero, suc, pred, ◌+◌, ◌<◌, ◌≤◌, Bool, true, false, cond, eqb, ◌&&◌, List, [], ◌∷◌, ◌++◌, take, Some, None, Option, sym, refl, ap, ◌∙◌, ⊎_elim, inl, inr, ◌⊎◌, arith}
use Rattle.std.specs.List.{slice_get}
use Rattle.std.proofs.lemmas.Bool.{cases_eq, cases_lt, cases_order, eq-eqb, ne_eqb, eqb-true, and_parts}
use Rattle.std.proofs.lemmas.List.Sums.{fold_push}
use Rattle.trace.specs.declared.event.Event.{Event}
use Rattle.trace.specs.declared.kind.Kind.{Kind}
use Rattle.trace.specs.declared.kind.Kind.TheVariants.{Read, Write, Acquire, Release, Spawn, Join}
use Rattle.trace.specs.Traces.{At, deeper, depth_with, depth, depth_at, Outer, Frees, ReleaseOf}
use Rattle.trace.specs.Lookups.{depth_past, freeing}
use Rattle.trace.proofs.Events.{at_same}

-- the first events and one more
pub take_next : (t : List Event) (k : ℕ) (e : Event) → At t k e → take (suc k) t ≡ take k t ++ (e ∷ [])
take_next [] k e i = absurd (grind arith)
take_next (x ∷ t) zero e i = let q : x ≡ e = cc in ap (λ y. y ∷ []) q
take_next (x ∷ t) (suc k) e i = ap (λ es. x ∷ es) (take_next t k e i)

pub take_past : (t : List Event) (k : ℕ) → slice_get t k ≡ None → take (suc k) t ≡ take k t
take_past [] zero i = refl
take_past [] (suc k) i = refl
take_past (x ∷ t) zero i = absurd (grind arith)
take_past (x ∷ t) (suc k) i = ap (λ es. x ∷ es) (take_past t k i)

-- what is left once to be none was one
last_out : (n : ℕ) → 0 < n → pred n ≡ 0 → n ≡ 1
last_out zero a b = absurd (omega arith)
last_out (suc n) a b = omega arith

module _ (p l : ℕ) where
  -- the depth after one event more
  pub depth_push : (es : List Event) (e : Event) → depth p l (es ++ (e ∷ [])) ≡ depth_with p l (depth p l es) e
  depth_push es e = fold_push (depth_with p l) 0 es e

  -- an event of another thread leaves it
  pub depth_other : (n : ℕ) (e : Event) → (e.thread ≡ p → ⊥) → depth_with p l n e ≡ n
  depth_other n e other = rw (ne_eqb e.thread p other) refl

  -- one of the thread on the lock makes it deeper or less deep
  pub depth_own : (n : ℕ) (e : Event) → e.thread ≡ p → e.subject ≡ l → depth_with p l n e ≡ deeper e.kind n
  depth_own n e thread lock = rw (eq-eqb e.thread p thread, eq-eqb e.subject l lock) refl

  -- what changes the depth is of the thread and on the lock
  pub changed : (n : ℕ) (e : Event) → (depth_with p l n e ≡ n → ⊥) → (e.thread ≡ p) × (e.subject ≡ l)
  changed n e change = of_test (eqb e.thread p && eqb e.subject l) refl
    where
      of_test : (b : Bool) → (eqb e.thread p && eqb e.subject l) ≡ b → (e.thread ≡ p) × (e.subject ≡ l)
      of_test true h = let (a, b) = and_parts (eqb e.thread p) (eqb e.subject l) h in (eqb-true e.thread p a, eqb-true e.subject l b)
      of_test false h = absurd (change (rw h refl))

  module _ (t : List Event) where
    -- the depth before position k
    abbrev pub before : ℕ → ℕ
    before k = depth p l (take k t)

    pub before_next : (k : ℕ) (e : Event) → At t k e → before (suc k) ≡ depth_with p l (before k) e
    before_next k e i = ap (depth p l) (take_next t k e i) ∙ depth_push (take k t) e

    pub before_past : (k : ℕ) → slice_get t k ≡ None → before (suc k) ≡ before k
    before_past k i = ap (depth p l) (take_past t k i)

    before_step : (k : ℕ) → before (suc k) ≡ depth_past p l (before k) (slice_get t k)
    before_step k = of_event (slice_get t k) refl
      where
        of_event : (o : Option Event) → slice_get t k ≡ o → before (suc k) ≡ depth_past p l (before k) o
        of_event None i = before_past k i
        of_event (Some e) i = before_next k e i

    -- where the thread comes out of the lock, its release frees it
    pub drops : (k : ℕ) → 0 < before k → before (suc k) ≡ 0 → (e : Event) × Frees t k e × (e.thread ≡ p) × (e.subject ≡ l)
    drops k inside out = of_event (slice_get t k) refl
      where
        of_event : (o : Option Event) → slice_get t k ≡ o → (e : Event) × Frees t k e × (e.thread ≡ p) × (e.subject ≡ l)
        of_event None i = absurd (omega (arith, before_past k i))
        of_event (Some e) i = (e, of_kind e.kind refl, own.0, own.1)
          where
            next : before (suc k) ≡ depth_with p l (before k) e
            next = before_next k e i

            own : (e.thread ≡ p) × (e.subject ≡ l)
            own = changed (before k) e (λ q. omega (arith, next))

            level : depth_at t k e ≡ before k
            level = rw (own.0, own.1) refl

            goes : before (suc k) ≡ deeper e.kind (before k)
            goes = next ∙ depth_own (before k) e own.0 own.1

            of_kind : (x : Kind) → e.kind ≡ x → Frees t k e
            of_kind Read q = absurd (let z = rw q at goes in omega arith)
            of_kind Write q = absurd (let z = rw q at goes in omega arith)
            of_kind Acquire q = absurd (let z = rw q at goes in omega arith)
            of_kind Spawn q = absurd (let z = rw q at goes in omega arith)
            of_kind Join q = absurd (let z = rw q at goes in omega arith)
            of_kind Release q =
                let z : before (suc k) ≡ pred (before k) = rw q at goes in
                let once : before k ≡ 1 = last_out (before k) inside (sym z ∙ out) in
                record { is = i; is_release = q; last = level ∙ once }

    -- where it comes into the lock, its acquire is outer
    pub rises : (k : ℕ) → before k ≡ 0 → 0 < before (suc k) → (e : Event) × Outer t k e × (e.thread ≡ p) × (e.subject ≡ l)
    rises k out inside = of_event (slice_get t k) refl
      where
        of_event : (o : Option Event) → slice_get t k ≡ o → (e : Event) × Outer t k e × (e.thread ≡ p) × (e.subject ≡ l)
        of_event None i = absurd (omega (arith, before_past k i))
        of_event (Some e) i = (e, of_kind e.kind refl, own.0, own.1)
          where
            next : before (suc k) ≡ depth_with p l (before k) e
            next = before_next k e i

            own : (e.thread ≡ p) × (e.subject ≡ l)
            own = changed (before k) e (λ q. omega (arith, next))

            level : depth_at t k e ≡ before k
            level = rw (own.0, own.1) refl

            goes : before (suc k) ≡ deeper e.kind (before k)
            goes = next ∙ depth_own (before k) e own.0 own.1

            of_kind : (x : Kind) → e.kind ≡ x → Outer t k e
            of_kind Read q = absurd (let z = rw q at goes in omega arith)
            of_kind Write q = absurd (let z = rw q at goes in omega arith)
            of_kind Release q = absurd (let z = rw (q, out) at goes in omega arith)
            of_kind Spawn q = absurd (let z = rw q at goes in omega arith)
            of_kind Join q = absurd (let z = rw q at goes in omega arith)
            of_kind Acquire q = record { is = i; is_acquire = q; outside = level ∙ out }

    -- events of other threads leave the depth
    pub quiet : (n k : ℕ) → n ≤ k → ((m : ℕ) (e : Event) → n ≤ m → m < k → At t m e → e.thread ≡ p → ⊥) → before k ≡ before n
    quiet n zero b none = let q : 0 ≡ n = omega arith in ap before q
    quiet n (suc k) b none =
        ⊎_elim (λ g. let q : suc k ≡ n = omega arith in ap before q)
        (λ g. of_event g (slice_get t k) refl (quiet n k g (λ m e c h. none m e c (omega arith)))) (cases_lt k n)
      where
        of_event : n ≤ k → (o : Option Event) → slice_get t k ≡ o → before k ≡ before n → before (suc k) ≡ before n
        of_event c None i rest = before_past k i ∙ rest
        of_event c (Some e) i rest = before_next k e i ∙ depth_other (before k) e (none k e c (omega arith) i) ∙ rest

    -- a thread that is in the lock came into it at an outer acquire, and was in it since
    pub record Inside (n : ℕ) : Type 0 where
      pub start : ℕ
      pub event : Event
      pub earlier : start < n
      pub outer : Outer t start event
      pub its_thread : event.thread ≡ p
      pub its_lock : event.subject ≡ l
      pub since : (m : ℕ) → start < m → m ≤ n → 0 < before m

    pub inside : (n : ℕ) → 0 < before n → Inside n
    inside zero d = absurd (omega arith)
    inside (suc n) d = ⊎_elim here (λ more. further (inside n more)) (cases_zero (before n))
      where
        cases_zero : (m : ℕ) → (m ≡ 0) ⊎ (0 < m)
        cases_zero zero = inl refl
        cases_zero (suc m) = inr (omega arith)

        here : before n ≡ 0 → Inside (suc n)
        here out =
            let (e, outer, thread, lock) = rises n out d in
            record {
              start = n;
              event = e;
              earlier = omega arith;
              outer = outer;
              its_thread = thread;
              its_lock = lock;
              since = λ m g h. let q : m ≡ suc n = omega arith in rw q d;
            }

        further : Inside n → Inside (suc n)
        further i = record {
          start = i.start;
          event = i.event;
          earlier = omega (arith, i.earlier);
          outer = i.outer;
          its_thread = i.its_thread;
          its_lock = i.its_lock;
          since = λ m g h. ⊎_elim (λ c. i.since m g (omega arith)) (λ c. let q : m ≡ suc n = omega arith in rw q d) (cases_lt m (suc n));
        }

    -- r is the earliest position from k on after which the thread is out of the lock
    pub record FreedAt (k r : ℕ) : Type 0 where
      pub from : k ≤ r
      pub out : before (suc r) ≡ 0
      pub still : (m : ℕ) → k ≤ m → m < r → 0 < before (suc m)

    -- what the search for it should answer
    abbrev pub FreeingIs : ℕ → ℕ → Option ℕ → Type 0
    FreeingIs k n None = (m : ℕ) → k ≤ m → m < k + n → 0 < before (suc m)
    FreeingIs k n (Some r) = FreedAt k r × (r < k + n)

    freeing_next : (n k next : ℕ) → before (suc k) ≡ next → (o : Option ℕ) → FreeingIs (suc k) n o
        → FreeingIs k (suc n) (cond (eqb next 0) (Some k) o)
    freeing_next n k next is_next o rest =
        ⊎_elim (λ z. rw (eq-eqb next 0 z) (here z)) (λ z. rw (ne_eqb next 0 z) (further z o rest)) (cases_eq next 0)
      where
        here : next ≡ 0 → FreedAt k k × (k < k + suc n)
        here z = (record { from = omega arith; out = is_next ∙ z; still = λ m a b. absurd (omega arith) }, omega arith)

        more : (next ≡ 0 → ⊥) → 0 < before (suc k)
        more z = rw is_next (positive next z)
          where
            positive : (m : ℕ) → (m ≡ 0 → ⊥) → 0 < m
            positive zero f = absurd (f refl)
            positive (suc m) f = omega arith

        further : (next ≡ 0 → ⊥) → (o : Option ℕ) → FreeingIs (suc k) n o → FreeingIs k (suc n) o
        further z None none = λ m a b. ⊎_elim (λ s. rw s (more z)) (λ s. none m (omega arith) (omega arith)) (cases_eq m k)
        further z (Some r) (f, b) = (
          record {
            from = omega (arith, f.from);
            out = f.out;
            still = λ m c e. ⊎_elim (λ s. rw s (more z)) (λ s. f.still m (omega arith) e) (cases_eq m k);
          },
          omega arith,
        )

    pub freeing_is : (n k d : ℕ) → before k ≡ d → FreeingIs k n (freeing p l t d k n)
    freeing_is zero k d q = λ m a b. absurd (omega arith)
    freeing_is (suc n) k d q =
        let next = depth_past p l d (slice_get t k) in
        let is_next : before (suc k) ≡ next = before_step k ∙ ap (λ n. depth_past p l n (slice_get t k)) q in
        freeing_next n k next is_next (freeing p l t next (suc k) n) (freeing_is n (suc k) next is_next)

-- after an outer acquire its thread is in the lock once
pub outer_after : (t : List Event) (k : ℕ) (e : Event) → Outer t k e → depth e.thread e.subject (take (suc k) t) ≡ 1
outer_after t k e o = before_next e.thread e.subject t k e o.is ∙ depth_own e.thread e.subject _ e refl refl ∙ rw (o.is_acquire, o.outside) refl

-- and after a release that frees the lock it is out of it
pub frees_after : (t : List Event) (k : ℕ) (e : Event) → Frees t k e → depth e.thread e.subject (take (suc k) t) ≡ 0
frees_after t k e f = before_next e.thread e.subject t k e f.is ∙ depth_own e.thread e.subject _ e refl refl ∙ rw (f.is_release, f.last) refl

module _ (t : List Event) (a : ℕ) (e : Event) (here : At t a e) (acquires : e.kind ≡ Acquire) where
  -- after an acquire its thread is in the lock
  acquired : 0 < before e.thread e.subject t (suc a)
  acquired =
      let next : before e.thread e.subject t (suc a) ≡ suc (before e.thread e.subject t a) =
      before_next e.thread e.subject t a e here ∙ depth_own e.thread e.subject _ e refl refl ∙ rw acquires refl in
      omega (arith, next)

  -- the release of an acquire is where its thread comes out of the lock next
  pub freed_release : (r : ℕ) → FreedAt e.thread e.subject t (suc a) r → ReleaseOf t a r
  freed_release r f = record {
    after = f.from;
    acquire = e;
    release = there.0;
    acquire_is = here;
    is_acquire = acquires;
    frees = there.1;
    same_lock = there.3;
    same_thread = there.2;
    none_between = λ m g b c fr lock thread.
        let out : before e.thread e.subject t (suc m) ≡ 0 = rw (lock, thread) at (frees_after t m g fr) in
        omega (arith, f.still m b c);
  }
    where
      in_lock : 0 < before e.thread e.subject t r
      in_lock = ⊎_elim (λ q. rw q (omega (arith, acquired))) (λ q. up r (f.from) q refl) (cases_eq r (suc a))
        where
          up : (s : ℕ) → suc a ≤ s → (s ≡ suc a → ⊥) → s ≡ r → 0 < before e.thread e.subject t s
          up zero b n q = absurd (omega arith)
          up (suc s) b n q = f.still s (below s b n) (omega arith)
            where
              below : (s : ℕ) → suc a ≤ suc s → (suc s ≡ suc a → ⊥) → suc a ≤ s
              below s b n = omega arith

      there : (g : Event) × Frees t r g × (g.thread ≡ e.thread) × (g.subject ≡ e.subject)
      there = drops e.thread e.subject t r in_lock f.out

  -- it stays in the lock as long as no release of it frees the lock
  stays_in : (r : ℕ) → ((m : ℕ) (g : Event) → a < m → m < r → Frees t m g → g.subject ≡ e.subject → g.thread ≡ e.thread → ⊥) → (m : ℕ) → suc a ≤ m
      → m < r → 0 < before e.thread e.subject t (suc m)
  stays_in r none zero b c = absurd (omega arith)
  stays_in r none (suc m) b c = of_depth (before e.thread e.subject t (suc (suc m))) refl
      (⊎_elim (λ q. ap_positive q) (λ q. stays_in r none m (omega arith) (omega arith)) (cases_eq a m))
    where
      ap_positive : a ≡ m → 0 < before e.thread e.subject t (suc m)
      ap_positive q = rw (← q) (omega (arith, acquired))

      of_depth : (d : ℕ) → before e.thread e.subject t (suc (suc m)) ≡ d → 0 < before e.thread e.subject t (suc m)
          → 0 < before e.thread e.subject t (suc (suc m))
      of_depth (suc d) q earlier = rw q (omega arith)
      of_depth zero q earlier =
          absurd (let (g, fr, x, y) = drops e.thread e.subject t (suc m) earlier q in none (suc m) g b c fr y x)

  pub release_freed : (r : ℕ) → ReleaseOf t a r → FreedAt e.thread e.subject t (suc a) r
  release_freed r h = record {
    from = h.after;
    out = rw (lock, thread) at (frees_after t r h.release h.frees);
    still = since;
  }
    where
      same : h.acquire ≡ e
      same = at_same t a h.acquire e h.acquire_is here

      thread : h.release.thread ≡ e.thread
      thread = h.same_thread ∙ ap (λ (x : Event). x.thread) same

      lock : h.release.subject ≡ e.subject
      lock = h.same_lock ∙ ap (λ (x : Event). x.subject) same

      since : (m : ℕ) → suc a ≤ m → m < r → 0 < before e.thread e.subject t (suc m)
      since = stays_in r (λ m g b c fr x y.
          h.none_between m g b c fr (x ∙ ap (λ (z : Event). z.subject) (sym same)) (y ∙ ap (λ (z : Event). z.thread) (sym same)))

  -- an acquire has one release at most
  pub release_only : (q r : ℕ) → ReleaseOf t a q → ReleaseOf t a r → q ≡ r
  release_only q r x y = ⊎_elim (λ same. same) (⊎_elim (λ less. absurd (clash q r x y less)) (λ more. absurd (clash r q y x more))) (cases_order q r)
    where
      clash : (q r : ℕ) → ReleaseOf t a q → ReleaseOf t a r → q < r → ⊥
      clash q r x y less = omega (arith, (release_freed r y).still q x.after less, (release_freed q x).out)

  -- where its thread is out of the lock later, it has a release before that
  pub freed_before : (n : ℕ) → a < n → depth e.thread e.subject (take n t) ≡ 0 → (r : ℕ) × ReleaseOf t a r × (r < n)
  freed_before zero b out = absurd (omega arith)
  freed_before (suc n) b out = of_answer (freeing e.thread e.subject t (before e.thread e.subject t (suc a)) (suc a) (n + 1)) (freeing_is e.thread e.subject t (n + 1) (suc a) (before e.thread e.subject t (suc a)) refl)
    where
      of_answer : (x : Option ℕ) → FreeingIs e.thread e.subject t (suc a) (n + 1) x → (r : ℕ) × ReleaseOf t a r × (r < suc n)
      of_answer None none = absurd (⊎_elim (λ q. omega (arith, acquired, ap (λ (k : ℕ). depth e.thread e.subject (take (suc k) t)) q))
          (λ q. omega (arith, none n (omega arith) (omega arith))) (cases_eq a n))
      of_answer (Some r) (f, c) = (r, freed_release r f, ⊎_elim (λ g. g) (λ g. absurd (late g)) (cases_lt r (suc n)))
        where
          late : suc n ≤ r → ⊥
          late g = ⊎_elim (λ q. omega (arith, acquired, ap (λ (k : ℕ). depth e.thread e.subject (take (suc k) t)) q))
              (λ q. omega (arith, f.still n (omega arith) (omega arith))) (cases_eq a n)
