-- The outer acquires of a lock in a cut, one after the other: each but the latest has its release in the cut, or that is missing.
use Rattle.std.proofs.Common.{◌≡◌, ℕ, zero, suc, pred, ◌+◌, ◌<◌, ◌≤◌, Bool, true, false, cond, eqb, ◌⊎◌, List, [], ◌∷◌, get_or, take, fold, Some, None, Option, sym, refl, ap, ◌∙◌, inl, inr, ⊎_elim, add-one, arith}
use Rattle.std.specs.List.{slice_get}
use Rattle.std.proofs.lemmas.Bool.{cases_eq, cases_lt, both_ways, and_parts, and_from, eqb-true, eq-eqb, ne_eqb, lt-ltb, le-ltb}
use Rattle.std.proofs.lemmas.List.Sums.{fold_push}
use Rattle.trace.specs.declared.event.Event.{Event}
use Rattle.trace.specs.declared.hold.Hold.{Hold}
use Rattle.trace.specs.declared.kind.Kind.{Kind}
use Rattle.trace.specs.declared.kind.Kind.TheVariants.{Read, Write, Acquire, Release, Spawn, Join}
use Rattle.trace.specs.Limits.{on_lock, locks}
use Rattle.trace.specs.Traces.{At, Standing, at_start, entered, left, turn, after_event, after, standing_after, lock_refusal, Admits, depth_at, Outer, ReleaseOf, deeper}
use Rattle.trace.specs.Depths.{depth_in}
use Rattle.trace.specs.Lookups.{release_of}
use Rattle.trace.specs.Cuts.{In}
use Rattle.trace.proofs.Holders.{lets, admits_take}
use Rattle.trace.proofs.Depths.{Deep, held_as_deep, held_deep}
use Rattle.trace.proofs.Sections.{take_next, take_past}
use Rattle.trace.proofs.Lookups.{release_found}
use Rattle.trace.proofs.Releases.{allowed_in, free_before}
use Rattle.predict.specs.Held.{held, lacks, Misses}
use Rattle.predict.specs.Parts.{AcquireIn, Enough, LockWants, SettledBefore, acquiring, acquires, fits_inside, lock_depth_with, lock_depth_past}
use Rattle.predict.proofs.Finding.{deeper_no_more}
use Rattle.predict.proofs.Inside.{lacks_outside, lacks_inside, inside_event, inside_from}

is_acquiring : (k : Kind) → acquiring k ≡ true → k ≡ Acquire
is_acquiring Acquire h = refl
is_acquiring Read h = absurd (grind arith)
is_acquiring Write h = absurd (grind arith)
is_acquiring Release h = absurd (grind arith)
is_acquiring Spawn h = absurd (grind arith)
is_acquiring Join h = absurd (grind arith)

module _ (e : Event) (l : ℕ) where
  -- the test of an event tells whether it is an acquire of the lock
  pub is_acquire : acquires l e ≡ true → (e.kind ≡ Acquire) × (e.subject ≡ l)
  is_acquire h = let (k, s) = and_parts (acquiring e.kind) (eqb e.subject l) h in (is_acquiring e.kind k, eqb-true e.subject l s)

  pub as_acquire : e.kind ≡ Acquire → e.subject ≡ l → acquires l e ≡ true
  as_acquire k s = and_from (acquiring e.kind) (eqb e.subject l) (ap acquiring k) (eq-eqb e.subject l s)

-- how deep a lock is held, if it is
abbrev pub hold_depth : Option Hold → ℕ
hold_depth None = 0
hold_depth (Some h) = h.depth

-- how deep a lock is held after some events
abbrev pub lock_depth : ℕ → List Event → ℕ
lock_depth l es = fold (lock_depth_with l) 0 es

-- that is as deep as the trace check has it held
module _ (l : ℕ) where
  held_step : (s : Standing) (e : Event) → hold_depth ((after_event s e).holders l) ≡ lock_depth_with l (hold_depth (s.holders l)) e
  held_step s e = ⊎_elim here there (cases_eq e.subject l)
    where
      there : (e.subject ≡ l → ⊥) → hold_depth ((after_event s e).holders l) ≡ lock_depth_with l (hold_depth (s.holders l)) e
      there n = rw (ne_eqb e.subject l n) (of_kind e.kind)
        where
          of_kind : (k : Kind) → hold_depth (turn k e.thread e.subject s.holders l) ≡ hold_depth (s.holders l)
          of_kind Read = refl
          of_kind Write = refl
          of_kind Acquire = rw (ne_eqb l e.subject (λ q. n (sym q))) refl
          of_kind Release = rw (ne_eqb l e.subject (λ q. n (sym q))) refl
          of_kind Spawn = refl
          of_kind Join = refl

      here : e.subject ≡ l → hold_depth ((after_event s e).holders l) ≡ lock_depth_with l (hold_depth (s.holders l)) e
      here q = rw (← q, eq-eqb e.subject e.subject refl) (of_kind e.kind)
        where
          freed : (o : Option Hold) → hold_depth (left o) ≡ pred (hold_depth o)
          freed None = refl
          freed (Some h) = ⊎_elim (λ g. rw (lt-ltb 1 h.depth g) refl) (λ g. rw (le-ltb 1 h.depth g) (out h.depth g)) (cases_lt 1 h.depth)
            where
              out : (n : ℕ) → n ≤ 1 → 0 ≡ pred n
              out zero b = refl
              out (suc n) b = omega arith

          entered_once : (o : Option Hold) → hold_depth (entered e.thread o) ≡ suc (hold_depth o)
          entered_once None = refl
          entered_once (Some h) = omega arith

          of_kind : (k : Kind) → hold_depth (turn k e.thread e.subject s.holders e.subject) ≡ deeper k (hold_depth (s.holders e.subject))
          of_kind Read = refl
          of_kind Write = refl
          of_kind Acquire = rw (eq-eqb e.subject e.subject refl) (entered_once (s.holders e.subject))
          of_kind Release = rw (eq-eqb e.subject e.subject refl) (freed (s.holders e.subject))
          of_kind Spawn = refl
          of_kind Join = refl

  held_run : (s : Standing) (es : List Event) → hold_depth ((after s es).holders l) ≡ fold (lock_depth_with l) (hold_depth (s.holders l)) es
  held_run s [] = refl
  held_run s (e ∷ es) = held_run (after_event s e) es ∙ ap (λ n. fold (lock_depth_with l) n es) (held_step s e)

  pub lock_held : (t : List Event) → hold_depth ((standing_after t).holders l) ≡ lock_depth l t
  lock_held t = held_run at_start t

  -- with one position more
  pub lock_depth_next : (t : List Event) (k : ℕ) → lock_depth l (take (suc k) t) ≡ lock_depth_past l (lock_depth l (take k t)) (slice_get t k)
  lock_depth_next t k = of_event (slice_get t k) refl
    where
      of_event : (o : Option Event) → slice_get t k ≡ o → lock_depth l (take (suc k) t) ≡ lock_depth_past l (lock_depth l (take k t)) o
      of_event None i = ap (lock_depth l) (take_past t k i)
      of_event (Some e) i = ap (lock_depth l) (take_next t k e i) ∙ fold_push (lock_depth_with l) 0 (take k t) e

  past_no_more : (n : ℕ) (o : Option Event) → lock_depth_past l n o ≤ n + 1
  past_no_more n None = omega arith
  past_no_more n (Some e) = of_test (eqb e.subject l)
    where
      of_test : (b : Bool) → cond b (deeper e.kind n) n ≤ n + 1
      of_test true = deeper_no_more e.kind n
      of_test false = omega arith

  -- the depth before a position, which is no more than the position
  pub record DepthAt (t : List Event) (k depth : ℕ) : Type 0 where
    pub is : depth ≡ lock_depth l (take k t)
    pub few : depth ≤ k

  pub depth_first : (t : List Event) → DepthAt t 0 0
  depth_first t = record { is = refl; few = omega arith }

  pub depth_next : (t : List Event) (k depth next : ℕ) → DepthAt t k depth → next ≡ lock_depth_past l depth (slice_get t k) → DepthAt t (k + 1) next
  depth_next t k depth next d is = record {
    is = rw add-one (is ∙ ap (λ n. lock_depth_past l n (slice_get t k)) d.is ∙ sym (lock_depth_next t k));
    few = omega (arith, past_no_more depth (slice_get t k), d.few);
  }

module _ (t : List Event) (bs : List ℕ) where
  -- the release of a, if it has one, is in the cut
  abbrev pub ReleaseInside : ℕ → Type 0
  ReleaseInside a = (r : ℕ) → ReleaseOf t a r → In r (held t bs)

  -- of the outer acquires of the lock below k, the latest, if there is one; and the others have their releases in the cut
  abbrev pub LatestAcquire : ℕ → ℕ → Option ℕ → Type 0
  LatestAcquire l k None = (m : ℕ) → m < k → AcquireIn t (held t bs) l m → ⊥
  LatestAcquire l k (Some a) = AcquireIn t (held t bs) l a × (a < k)
      × ((m : ℕ) → m < k → AcquireIn t (held t bs) l m → (m ≡ a) ⊎ ((m < a) × ReleaseInside m))

  -- a release outside the cut that is wanted
  pub misses_outside : (r : ℕ) → true ≡ lacks t bs r → (Admits t → LockWants t (held t bs) r) → Misses LockWants t bs (Some r)
  misses_outside r out wants = record { outside = lacks_outside t bs r (sym out); exact = wants }

module _ (t : List Event) (ok : Admits t) where
  -- an acquire is outer just where its lock is free before it
  outer_from : (k : ℕ) (e : Event) → At t k e → e.kind ≡ Acquire → lock_depth e.subject (take k t) ≡ 0 → Outer t k e
  outer_from k e i kind free = record { is = i; is_acquire = kind; outside = sym (held_as_deep (take k t) (admits_take t k ok) e.thread e.subject) ∙ none }
    where
      no_hold : (o : Option Hold) → hold_depth o ≡ 0 → Deep o → o ≡ None
      no_hold None q d = refl
      no_hold (Some h) q d = absurd (omega arith)

      none : depth_in ((standing_after (take k t)).holders e.subject) e.thread ≡ 0
      none = rw (no_hold ((standing_after (take k t)).holders e.subject) (lock_held e.subject (take k t) ∙ free) (held_deep (take k t) (admits_take t k ok) e.subject)) refl

  outer_free : (k : ℕ) (e : Event) → Outer t k e → lock_depth e.subject (take k t) ≡ 0
  outer_free k e o = sym (lock_held e.subject (take k t)) ∙ ap hold_depth (free_before t k e ok o)

  -- where an event is on a lock, that is held as deep as the thread of the event is in it
  own_hold : (x : Kind) (p : ℕ) (o : Option Hold) → on_lock x ≡ true → lock_refusal x p o ≡ None → hold_depth o ≡ depth_in o p
  own_hold x p None a q = refl
  own_hold Read p (Some h) a q = absurd (grind arith)
  own_hold Write p (Some h) a q = absurd (grind arith)
  own_hold Spawn p (Some h) a q = absurd (grind arith)
  own_hold Join p (Some h) a q = absurd (grind arith)
  own_hold Acquire p (Some h) a q =
      ⊎_elim (λ own. rw (eq-eqb h.thread p own) refl) (λ n. absurd (let z = rw (ne_eqb h.thread p n) at q in grind arith)) (cases_eq h.thread p)
  own_hold Release p (Some h) a q =
      ⊎_elim (λ own. rw (eq-eqb h.thread p own) refl) (λ n. absurd (let z = rw (ne_eqb h.thread p n) at q in grind arith)) (cases_eq h.thread p)

  pub own_depth : (k : ℕ) (e : Event) → At t k e → on_lock e.kind ≡ true → lock_depth e.subject (take k t) ≡ depth_at t k e
  own_depth k e i on =
      let hold = (standing_after (take k t)).holders e.subject in
      sym (lock_held e.subject (take k t))
      ∙ own_hold e.kind e.thread hold on (lets (standing_after (take k t)) e (allowed_in t k e ok i)).lock
      ∙ held_as_deep (take k t) (admits_take t k ok) e.thread e.subject

  module _ (bs : List ℕ) where
    -- the tests of a position tell whether it is an outer acquire of the lock in the cut
    acquire_in : (l k : ℕ) → lock_depth l (take k t) ≡ 0 → true ≡ fits_inside (acquires l) t bs k → AcquireIn t (held t bs) l k
    acquire_in l k free h =
        let (e, i, does, inside) = inside_event t bs (acquires l) k (sym h) in
        let (kind, lock) = is_acquire e l does in
        record { event = e; inside = inside; outer = outer_from k e i kind (rw lock free); its_lock = lock }

    not_acquire_in : (l k : ℕ) → false ≡ fits_inside (acquires l) t bs k → AcquireIn t (held t bs) l k → ⊥
    not_acquire_in l k h a =
        both_ways (fits_inside (acquires l) t bs k) (sym h)
        (inside_from t bs (acquires l) k a.event a.outer.is (as_acquire a.event l a.outer.is_acquire a.its_lock) a.inside)

    not_held_in : (l k : ℕ) → (lock_depth l (take k t) ≡ 0 → ⊥) → AcquireIn t (held t bs) l k → ⊥
    not_held_in l k held a = held (rw a.its_lock at (outer_free k a.event a.outer))

    -- what is found as the release of an outer acquire
    abbrev pub Found : ℕ → Option ℕ → Type 0
    Found a o = (e : Event) → Outer t a e → o ≡ release_of t a

    pub no_release : {l k : ℕ} (a : ℕ) → LatestAcquire t bs l k (Some a) → Found a None → ReleaseInside t bs a
    no_release a (is, low, old) q r h = absurd ((release_found t a is.event is.outer.is is.outer.is_acquire).1.0 (sym (q is.event is.outer)) r h)

    pub release_inside : {l k : ℕ} (a r : ℕ) → LatestAcquire t bs l k (Some a) → Found a (Some r) → false ≡ lacks t bs r → ReleaseInside t bs a
    release_inside a r (is, low, old) q h w rel =
        let p = ((release_found t a is.event is.outer.is is.outer.is_acquire).0 w).1 rel in
        let found = q is.event is.outer in
        let one : r ≡ w = cc in
        lacks_inside t bs w rel.release rel.frees.is (sym (rw one at h))

    -- a position that is none
    latest_passes : (l k : ℕ) (o : Option ℕ) → (AcquireIn t (held t bs) l k → ⊥) → LatestAcquire t bs l k o → LatestAcquire t bs l (k + 1) o
    latest_passes l k None h old = λ m b a. ⊎_elim (λ q. h (rw q at a)) (λ q. old m (omega arith) a) (cases_eq m k)
    latest_passes l k (Some z) h (is, low, old) =
        (is, omega arith, λ m b a. ⊎_elim (λ q. absurd (h (rw q at a))) (λ q. old m (omega arith) a) (cases_eq m k))

    pub latest_stays : (l k : ℕ) (o : Option ℕ) → false ≡ fits_inside (acquires l) t bs k → LatestAcquire t bs l k o → LatestAcquire t bs l (k + 1) o
    latest_stays l k o h = latest_passes l k o (not_acquire_in l k h)

    pub latest_held : (l k : ℕ) (o : Option ℕ) → (lock_depth l (take k t) ≡ 0 → ⊥) → LatestAcquire t bs l k o → LatestAcquire t bs l (k + 1) o
    latest_held l k o h = latest_passes l k o (not_held_in l k h)

    pub latest_first : (l k : ℕ) → lock_depth l (take k t) ≡ 0 → true ≡ fits_inside (acquires l) t bs k → LatestAcquire t bs l k None
        → LatestAcquire t bs l (k + 1) (Some k)
    latest_first l k free h old = (acquire_in l k free h, omega arith, λ m b a. ⊎_elim inl (λ q. absurd (old m (omega arith) a)) (cases_eq m k))

    pub latest_next : (l k a : ℕ) → lock_depth l (take k t) ≡ 0 → true ≡ fits_inside (acquires l) t bs k → ReleaseInside t bs a → LatestAcquire t bs l k (Some a)
        → LatestAcquire t bs l (k + 1) (Some k)
    latest_next l k z free h inside (is, low, old) =
        (acquire_in l k free h, omega arith, λ m b a. ⊎_elim inl (λ q. inr (omega arith, settled m (old m (omega arith) a))) (cases_eq m k))
      where
        settled : (m : ℕ) → (m ≡ z) ⊎ ((m < z) × ReleaseInside t bs m) → ReleaseInside t bs m
        settled m (inl q) = rw q inside
        settled m (inr p) = p.1

    -- the lock wants nothing more before the position
    pub lock_settled : (l k : ℕ) (o : Option ℕ) → LatestAcquire t bs l k o → SettledBefore t (held t bs) l k
    lock_settled l k None old a b w one two order low rel = absurd (old a (omega arith) one)
    lock_settled l k (Some z) (is, late, old) a b w one two order low rel = from (old a (omega arith) one) (old b low two)
      where
        from : (a ≡ z) ⊎ ((a < z) × ReleaseInside t bs a) → (b ≡ z) ⊎ ((b < z) × ReleaseInside t bs b) → In w (held t bs)
        from (inr p) q = p.1 w rel
        from (inl p) (inl q) = absurd (omega arith)
        from (inl p) (inr q) = absurd (omega (arith, q.0))

    -- a latest acquire, before another, with its release outside
    pub lock_misses : (l k a r : ℕ) → lock_depth l (take k t) ≡ 0 → true ≡ fits_inside (acquires l) t bs k → LatestAcquire t bs l k (Some a)
        → Found a (Some r) → LockWants t (held t bs) r
    lock_misses l k a r free h (is, low, old) q = record {
      lock = l;
      first = a;
      second = k;
      first_in = is;
      second_in = acquire_in l k free h;
      order = low;
      release = ((release_found t a is.event is.outer.is is.outer.is_acquire).0 r).0 (sym (q is.event is.outer));
    }

module _ (t : List Event) (bs ends : List ℕ) where
  -- the locks below l are settled before their ends
  abbrev pub LocksSettled : ℕ → Type 0
  LocksSettled l = Admits t → (m : ℕ) → m < l → SettledBefore t (held t bs) m (get_or ends m 0)

  pub locks_more : (l : ℕ) → LocksSettled l → (Admits t → SettledBefore t (held t bs) l (get_or ends l 0)) → LocksSettled (l + 1)
  locks_more l old new ok m b = ⊎_elim (λ q. rw q (new ok)) (λ q. old ok m (omega arith)) (cases_eq m l)

  -- and all of them, so nothing is missing
  pub locks_all : (n : ℕ) → locks ≤ n → Enough t bs ends → LocksSettled n → Misses LockWants t bs None
  locks_all n all e settled = record { outside = tt; exact = λ ok. e.enough ok (λ l. ⊎_elim (λ low. settled ok l low) (λ high. none l high) (cases_lt l n)) }
    where
      none : (l : ℕ) → n ≤ l → SettledBefore t (held t bs) l (get_or ends l 0)
      none l high a b w one two order low rel =
          let f = one.event in
          let few : f.subject < locks = rw one.outer.is_acquire at f.known_subject in
          absurd (omega (arith, few, one.its_lock, high, all))
