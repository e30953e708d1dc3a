-- What stands before a position of a thread: its events and its spawns, looked at from the position back to the latest event.
use Rattle.std.proofs.Common.{◌≡◌, ℕ, ◌+◌, ◌<◌, ◌≤◌, Bool, true, ◌↔◌, ◌⊎◌, List, None, sym, ◌∙◌, inl, inr, ⊎_elim, arith}
use mathlib.Core.List.{Memᴰ}
use mathlib.Core.Bool.{Bool-set}
use Rattle.std.specs.List.{slice_get}
use Rattle.std.proofs.Math.Logic.{∥∥₁_elim}
use Rattle.std.proofs.lemmas.Bool.{false≢true, eqb-true, eq-eqb, cases_lt, cases_order}
use Rattle.trace.specs.declared.event.Event.{Event}
use Rattle.trace.specs.Traces.{At}
use Rattle.trace.specs.Lookups.{fits_here, spawns, of_thread}
use Rattle.trace.proofs.Lookups.{is_spawn}
use Rattle.trace.proofs.Places.{Stands, stands, of_front, members, member_in, in_member}
use Rattle.predict.proofs.Inside.{tested}
use Rattle.reorder.specs.Comes.{Reorders, HasSpawns, HasEvents}

-- from i to k there is no event of the thread p, and each spawn of it is in the list
pub record Passed (t : List Event) (xs : List ℕ) (k p i : ℕ) : Type 0 where
  pub spawned : (m : ℕ) → i ≤ m → m < k → fits_here (spawns p) (slice_get t m) ≡ true → Memᴰ m xs
  pub no_event : (m : ℕ) → i ≤ m → m < k → fits_here (of_thread p) (slice_get t m) ≡ true → ⊥

module _ (t : List Event) (xs : List ℕ) (k p : ℕ) where
  -- at first there is nothing between
  pub passed_none : Passed t xs k p k
  passed_none = record { spawned = λ m a b. absurd (omega arith); no_event = λ m a b. absurd (omega arith) }

  -- at the start all is passed
  pub passed_all : Passed t xs k p 0 → HasSpawns t xs k p × HasEvents t xs k p
  passed_all q = (λ m b h. q.spawned m (omega arith) b h, λ m b h. absurd (q.no_event m (omega arith) b h))

  module _ (n i : ℕ) (next : n ≡ i + 1) (b : i < k) (q : Passed t xs k p n) where
    -- one position more is passed
    passed_more : (fits_here (of_thread p) (slice_get t i) ≡ true → ⊥) → (fits_here (spawns p) (slice_get t i) ≡ true → Memᴰ i xs) → Passed t xs k p i
    passed_more other spawned = record {
      spawned = λ m a c h. ⊎_elim (λ (e : m ≡ i). rw e (spawned (rw e at h))) (λ later. q.spawned m later c h) (here m a);
      no_event = λ m a c h. ⊎_elim (λ (e : m ≡ i). other (rw e at h)) (λ later. q.no_event m later c h) (here m a);
    }
      where
        here : (m : ℕ) → i ≤ m → (m ≡ i) ⊎ (n ≤ m)
        here m a = ⊎_elim (λ later. inr (omega arith)) (λ (e : m ≤ i). inl (omega arith)) (cases_lt i m)

    -- that of an event of another thread, that is no spawn of p or is in the list
    pub passed_event : (e : Event) → At t i e → (e.thread ≡ p → ⊥) → (spawns p e ≡ true → Memᴰ i xs) → Passed t xs k p i
    passed_event e is other spawned = passed_more (λ h. other (eqb-true e.thread p (rw is at h))) (λ h. spawned (rw is at h))

    -- and one without an event
    pub passed_past : slice_get t i ≡ None → Passed t xs k p i
    passed_past none = passed_more (λ h. absurd (false≢true (rw none at h))) (λ h. absurd (false≢true (rw none at h)))

    -- an event of the thread decides, since a reordering has all that is before it
    pub event_decides : ∥ Reorders t xs ∥₁ → (e : Event) → At t i e → e.thread ≡ p → (r : Bool) → (r ≡ true) ↔ Memᴰ i xs
        → (r ≡ true) ↔ (HasSpawns t xs k p × HasEvents t xs k p)
    event_decides old e is own r has = (λ h. there (has.0 h), λ all. has.1 (all.1 i b (rw is (eq-eqb e.thread p own))))
      where
        there : Memᴰ i xs → HasSpawns t xs k p × HasEvents t xs k p
        there j = (
          λ m c h. sides m (λ (l : m < i). spawn_in m l h) (λ d. rw d j) (λ a. q.spawned m a c h),
          λ m c h. sides m (λ (l : m < i). event_in m l h) (λ d. rw d j) (λ a. absurd (q.no_event m a c h)),
        )
          where
            s : Stands i xs
            s = stands j

            sides : (m : ℕ) → (m < i → Memᴰ m xs) → (m ≡ i → Memᴰ m xs) → (n ≤ m → Memᴰ m xs) → Memᴰ m xs
            sides m first same later =
                ⊎_elim same (λ o. ⊎_elim first (λ (l : i < m). later (omega arith)) o) (cases_order m i)

            -- what a reordering has before the event is in the list
            in_front : (m : ℕ) → (Reorders t xs → Memᴰ m s.front) → Memᴰ m xs
            in_front m of = in_member m xs (∥∥₁_elim old (Bool-set (members xs m) true) (λ r. member_in (of_front s (of r))))

            spawn_in : (m : ℕ) → m < i → fits_here (spawns p) (slice_get t m) ≡ true → Memᴰ m xs
            spawn_in m l h =
                let (f, j, does) = tested (spawns p) (slice_get t m) h in
                let (kind, names) = is_spawn f p does in
                in_front m (λ r. r.correct.spawns s.front s.back m i s.split
                (record { before = l; spawn = f; event = e; spawn_is = j; event_is = is; is_spawn = kind; names = names ∙ sym own }))

            event_in : (m : ℕ) → m < i → fits_here (of_thread p) (slice_get t m) ≡ true → Memᴰ m xs
            event_in m l h =
                let (f, j, does) = tested (of_thread p) (slice_get t m) h in
                in_front m (λ r. r.correct.thread_prefix s.front s.back m i s.split
                (record { before = l; first = f; second = e; first_is = j; second_is = is; same_thread = eqb-true f.thread p does ∙ sym own }))
