-- The examples of reorderings.
use Rattle.std.proofs.Common.{◌≡◌, ℕ, zero, suc, Bool, true, false, not, ◌&&◌, List, [], ◌∷◌, ◌++◌, Some, None, sym, refl, ap, ◌∙◌, subst, ⊎_elim, arith, lit<}
use mathlib.Core.List.Memᴰ
use mathlib.Core.List.{Memᴰ}
use Rattle.std.proofs.lemmas.Option.{none-some}
use Rattle.std.proofs.lemmas.Bool.{false≢true, cases_lt, and_parts, not-true}
use Rattle.trace.specs.declared.event.Event.{Event}
use Rattle.trace.specs.declared.kind.Kind.{Kind}
use Rattle.trace.specs.declared.kind.Kind.TheVariants.{Read, Write, Acquire, Release, Spawn, Join}
use Rattle.trace.specs.Lookups.{previous}
use Rattle.trace.specs.Traces.{At, EarlierInThread, SpawnOf, AwaitedSpawn, AwaitedEvent, Outer}
use Rattle.trace.specs.Reorderings.{Correct, SyncPreserving, Leaves}
use Rattle.trace.proofs.Events.{earlier_between}
use Rattle.trace.proofs.Lookups.{previous_from, last_write_found}
use Rattle.predict.proofs.Tests.{is_earlier}
use Rattle.reorder.specs.Comes.{Reorders}
use Rattle.reorder.proofs.Members.{no_place}
use Rattle.session.specs.Questions.Answers.{answered}
use Rattle.session.proofs.Asked.{previous_only, previous_none}
use Rattle.cases.specs.Examples.{event, sections_between, read_between, worker_awaited}
use Rattle.cases.proofs.Asking.{judges_none, witness_leaves}
use Rattle.cases.proofs.Judging.{sections_admitted, worker_admitted}
use Rattle.relations.specs.Reorderings.{write_within, AscendingOnly, LatestBehind, InTraceOnly, OnceOnly, ThreadOrderKept, LocksKept, ReadsKept, SpawnsKept, AwaitedKept, EnabledOnceSpawned, EnabledAfterAll, SectionsSwapped, SwapRefused, SectionReorders}

pub ascending_only : AscendingOnly
ascending_only = (
  (λ m i. let e = Memᴰ.eq_of_singleton i in omega arith, (λ m i. absurd (Memᴰ.not-nil i), tt)),
  λ h. let b = h.0 1 (Memᴰ.head refl) in omega arith,
  λ h. let b = h.0 1 (Memᴰ.head refl) in omega arith,
)

pub latest_behind : LatestBehind
latest_behind = (
  record {
    front = 0 ∷ [];
    back = [];
    stands = refl;
    write = event Write 2 0 tt tt;
    write_is = refl;
    is_write = refl;
    same_variable = refl;
    none_later = λ m e i. absurd (Memᴰ.not-nil i);
  },
  λ h. h.none_later 2 (event Write 2 0 tt tt) (behind h.front h.back h.stands) refl refl refl,
)
  where
    behind : (front back : List ℕ) → 0 ∷ 2 ∷ [] ≡ front ++ (0 ∷ back) → Memᴰ 2 back
    behind [] back e = let h : 2 ∷ [] ≡ back = grind arith in subst (Memᴰ 2) h (Memᴰ.head refl)
    behind (x ∷ []) back e = absurd (grind arith)
    behind (x ∷ y ∷ front) back e = absurd (no_place front back 0 (grind arith))

pub in_trace_only : InTraceOnly
in_trace_only c = let r = c.in_trace 7 (Memᴰ.head refl) in none-some r.0 r.1

pub once_only : OnceOnly
once_only c = c.once (0 ∷ []) [] 0 refl (Memᴰ.head refl)

pub thread_order_kept : ThreadOrderKept
thread_order_kept c = Memᴰ.not-nil (c.thread_prefix [] [] 3 4 refl (is_earlier sections_between 3 4 refl))

pub locks_kept : LocksKept
locks_kept c = none-some 5 (sym c.admitted.1.0)

pub reads_kept : ReadsKept
reads_kept c =
    let l = (c.reads [] [] 2 (event Read 1 1 tt tt) refl refl refl 1).1 (((last_write_found read_between 2).0 1).0 refl) in
    no_place l.front l.back 1 l.stands

module _ (t : List Event) where
  -- the first event of a thread has none before it
  none_before : (k d : ℕ) → previous t k ≡ None → EarlierInThread t d k → ⊥
  none_before k d is h = let (p, r, earlier, b) = previous_from t d k h in previous_none t k (sym is) p r

  -- all before an event are in a list that has its previous event and all before that
  all_before : (xs : List ℕ) (k p d : ℕ) → previous t k ≡ Some p → Memᴰ p xs → (EarlierInThread t d p → Memᴰ d xs) → EarlierInThread t d k → Memᴰ d xs
  all_before xs k p d is m rest h =
      let (o, r, earlier, b) = previous_from t d k h in
      let e : o ≡ p = previous_only t k p (sym is) o r in
      ⊎_elim (λ l. rest (earlier_between t d p k h (subst (λ n. EarlierInThread t n k) e earlier) l))
      (λ l. let same : d ≡ p = omega arith in subst (λ n. Memᴰ n xs) (sym same) m)
      (cases_lt d p)

-- the kinds of spawns and joins
abbrev on_thread : Kind → Bool
on_thread Read = false
on_thread Write = false
on_thread Acquire = false
on_thread Release = false
on_thread Spawn = true
on_thread Join = true

-- no event of a trace is of these
abbrev none_on_threads : List Event → Bool
none_on_threads [] = true
none_on_threads (e ∷ es) = not (on_thread e.kind) && none_on_threads es

off_threads : (t : List Event) (k : ℕ) (e : Event) → none_on_threads t ≡ true → At t k e → on_thread e.kind ≡ false
off_threads [] k e none i = absurd (grind arith)
off_threads (f ∷ es) zero e none i =
    let same : f ≡ e = grind arith in
    subst (λ (g : Event). on_thread g.kind ≡ false) same (not-true (on_thread f.kind) (and_parts (not (on_thread f.kind)) (none_on_threads es) none).0)
off_threads (f ∷ es) (suc k) e none i = off_threads es k e (and_parts (not (on_thread f.kind)) (none_on_threads es) none).1 i

module _ (t : List Event) (none : none_on_threads t ≡ true) where
  none_spawned : {s k : ℕ} → SpawnOf t s k → ⊥
  none_spawned {s} {k} h = false≢true (sym (off_threads t s h.spawn none h.spawn_is) ∙ ap on_thread h.is_spawn)

  no_spawn_awaited : {s k : ℕ} → AwaitedSpawn t s k → ⊥
  no_spawn_awaited {s} {k} h = false≢true (sym (off_threads t k h.join none h.join_is) ∙ ap on_thread h.is_join)

  no_event_awaited : {d k : ℕ} → AwaitedEvent t d k → ⊥
  no_event_awaited {d} {k} h = false≢true (sym (off_threads t k h.join none h.join_is) ∙ ap on_thread h.is_join)

-- the section of the second thread comes before its write
section_before : (t : List Event) (xs : List ℕ) (d : ℕ) → previous t 5 ≡ Some 4 → previous t 4 ≡ Some 3 → previous t 3 ≡ None → Memᴰ 3 xs → Memᴰ 4 xs
    → EarlierInThread t d 5 → Memᴰ d xs
section_before t xs d five four three i j =
    all_before t xs 5 4 d five j (all_before t xs 4 3 d four i (λ h. absurd (none_before t 3 d three h)))

-- other positions are not in these lists
not_in_two : (k : ℕ) → (k ≡ 3 → ⊥) → (k ≡ 4 → ⊥) → Memᴰ k (3 ∷ 4 ∷ []) → ⊥
not_in_two k a b m = ⊎_elim a (λ n. b (Memᴰ.eq_of_singleton n)) (Memᴰ.cases_cons m)

in_three : (k : ℕ) → (k ≡ 3 → ⊥) → (k ≡ 4 → ⊥) → (k ≡ 0 → ⊥) → Memᴰ k (3 ∷ 4 ∷ 0 ∷ []) → ⊥
in_three k a b c m = ⊎_elim a (λ n. ⊎_elim b (λ o. c (Memᴰ.eq_of_singleton o)) (Memᴰ.cases_cons n)) (Memᴰ.cases_cons m)

-- the spawn of the worker, and its write, which is awaited
worker_spawn : SpawnOf worker_awaited 1 2
worker_spawn = record {
  before = lit< tt;
  spawn = event Spawn 0 1 tt tt;
  event = event Write 1 0 tt tt;
  spawn_is = refl;
  event_is = refl;
  is_spawn = refl;
  names = refl;
}

worker_write : AwaitedEvent worker_awaited 2 4
worker_write = record {
  before = lit< tt;
  event = event Write 1 0 tt tt;
  join = event Join 0 1 tt tt;
  event_is = refl;
  join_is = refl;
  is_join = refl;
  names = refl;
}

pub spawns_kept : SpawnsKept
spawns_kept c = Memᴰ.not-nil (c.spawns [] [] 1 2 refl worker_spawn)

pub awaited_kept : AwaitedKept
awaited_kept c = not_before_join (c.awaited_events (0 ∷ 1 ∷ 3 ∷ []) [] 2 4 refl worker_write)
  where
    not_before_join : Memᴰ {A = ℕ} 2 (0 ∷ 1 ∷ 3 ∷ []) → ⊥
    not_before_join (Memᴰ.head e) = omega arith
    not_before_join (Memᴰ.tail (Memᴰ.head e)) = omega arith
    not_before_join (Memᴰ.tail (Memᴰ.tail m)) = let e = Memᴰ.eq_of_singleton m in omega arith

pub enabled_once_spawned : EnabledOnceSpawned
enabled_once_spawned = (
  (witness_leaves worker_awaited 2 3 worker_admitted refl (1 ∷ []) refl refl).enabled 2 (Memᴰ.head refl),
  λ h. let e = Memᴰ.eq_of_singleton (h.spawned 1 worker_spawn) in omega arith,
)

pub enabled_after_all : EnabledAfterAll
enabled_after_all = (
  record {
    outside = not_in_two 5 (λ e. omega arith) (λ e. omega arith);
    ready = λ d. section_before sections_between (3 ∷ 4 ∷ []) d refl refl refl (Memᴰ.head refl) (Memᴰ.tail (Memᴰ.head refl));
    spawned = λ s h. absurd (none_spawned sections_between refl h);
  },
  λ h. let e = Memᴰ.eq_of_singleton (h.ready 4 (is_earlier sections_between 4 5 refl)) in omega arith,
  λ h. h.outside (Memᴰ.tail (Memᴰ.tail (Memᴰ.head refl))),
)

-- the places of a list of three
split_of_three : (P : List ℕ → ℕ → Type 0) (x y z : ℕ) → P [] x → P (x ∷ []) y → P (x ∷ y ∷ []) z → (xs ys : List ℕ) (k : ℕ)
    → x ∷ y ∷ z ∷ [] ≡ xs ++ (k ∷ ys) → P xs k
split_of_three P x y z a b c [] ys k e = let h : x ≡ k = grind arith in subst (P []) h a
split_of_three P x y z a b c (v ∷ []) ys k e =
    let i : x ≡ v = grind arith in let h : y ≡ k = grind arith in subst (P (v ∷ [])) h (subst (λ n. P (n ∷ []) y) i b)
split_of_three P x y z a b c (v ∷ w ∷ []) ys k e =
    let i : x ≡ v = grind arith in let j : y ≡ w = grind arith in let h : z ≡ k = grind arith in
    subst (P (v ∷ w ∷ [])) h (subst (λ n. P (v ∷ n ∷ []) z) j (subst (λ n. P (n ∷ y ∷ []) z) i c))
split_of_three P x y z a b c (v ∷ w ∷ u ∷ xs) ys k e = absurd (no_place xs ys k (grind arith))

-- none of the three is a read
no_read : (k : ℕ) → Memᴰ k (3 ∷ 4 ∷ 0 ∷ []) → (e : Event) → At write_within k e → e.kind ≡ Read → ⊥
no_read k (Memᴰ.head i) e is r = let h = rw i at is in grind arith
no_read k (Memᴰ.tail (Memᴰ.head i)) e is r = let h = rw i at is in grind arith
no_read k (Memᴰ.tail (Memᴰ.tail m)) e is r = let h = rw (Memᴰ.eq_of_singleton m) at is in grind arith

-- both acquires are outer
first_outer : Outer write_within 0 (event Acquire 0 0 tt tt)
first_outer = record { is = refl; is_acquire = refl; outside = refl }

second_outer : Outer write_within 3 (event Acquire 1 0 tt tt)
second_outer = record { is = refl; is_acquire = refl; outside = refl }

-- they stand the other way round
pub not_in_order : SyncPreserving write_within (3 ∷ 4 ∷ 0 ∷ []) → ⊥
not_in_order s =
    let h = s.in_order (3 ∷ 4 ∷ []) [] 3 0 (event Acquire 1 0 tt tt) (event Acquire 0 0 tt tt) refl (Memᴰ.head refl) second_outer first_outer refl in
    omega arith

pub swap_refused : SwapRefused
swap_refused = (
  judges_none write_within 1 5 (refl, (refl, (refl, (refl, (refl, (refl, tt)))))) refl (2 ∷ 4 ∷ 0 ∷ []) refl refl,
  answered refl (λ e. absurd (false≢true e), λ l. absurd (not_in_order l.sync)),
)

-- the swapped sections are correct
swap_correct : Correct write_within (3 ∷ 4 ∷ 0 ∷ [])
swap_correct = record {
  in_trace = there;
  once = split_of_three (λ xs k. Memᴰ k xs → ⊥) 3 4 0 (λ m. Memᴰ.not-nil m) (λ m. let e = Memᴰ.eq_of_singleton m in omega arith)
      (not_in_two 0 (λ e. omega arith) (λ e. omega arith));
  thread_prefix = λ xs ys d k e. split_of_three (λ xs k. EarlierInThread write_within d k → Memᴰ d xs) 3 4 0
      (λ h. absurd (none_before write_within 3 d refl h))
      (all_before write_within (3 ∷ []) 4 3 d refl (Memᴰ.head refl) (λ h. absurd (none_before write_within 3 d refl h)))
      (λ h. absurd (none_before write_within 0 d refl h)) xs ys k e;
  spawns = λ xs ys s k e h. absurd (none_spawned write_within refl h);
  awaited_spawns = λ xs ys s k e h. absurd (no_spawn_awaited write_within refl h);
  awaited_events = λ xs ys d k e h. absurd (no_event_awaited write_within refl h);
  admitted = (refl, (refl, (refl, tt)));
  reads = λ xs ys k e s is r. absurd (no_read k (subst (Memᴰ k) (sym s) (Memᴰ.append_right xs (Memᴰ.head refl))) e is r);
}
  where
    there : (k : ℕ) → Memᴰ k (3 ∷ 4 ∷ 0 ∷ []) → (e : Event) × At write_within k e
    there k (Memᴰ.head i) = (event Acquire 1 0 tt tt, rw i refl)
    there k (Memᴰ.tail (Memᴰ.head i)) = (event Release 1 0 tt tt, rw i refl)
    there k (Memᴰ.tail (Memᴰ.tail m)) = (event Acquire 0 0 tt tt, rw (Memᴰ.eq_of_singleton m) refl)

pub sections_swapped : SectionsSwapped
sections_swapped = (
  swap_correct,
  record {
    outside = in_three 1 (λ e. omega arith) (λ e. omega arith) (λ e. omega arith);
    ready = λ d. all_before write_within (3 ∷ 4 ∷ 0 ∷ []) 1 0 d refl (Memᴰ.tail (Memᴰ.tail (Memᴰ.head refl)))
        (λ h. absurd (none_before write_within 0 d refl h));
    spawned = λ s h. absurd (none_spawned write_within refl h);
  },
  record {
    outside = in_three 5 (λ e. omega arith) (λ e. omega arith) (λ e. omega arith);
    ready = λ d. section_before write_within (3 ∷ 4 ∷ 0 ∷ []) d refl refl refl (Memᴰ.head refl) (Memᴰ.tail (Memᴰ.head refl));
    spawned = λ s h. absurd (none_spawned write_within refl h);
  },
  not_in_order,
)

-- the section of the second thread alone
section_leaves : Leaves sections_between (0 ∷ 5 ∷ []) (3 ∷ 4 ∷ [])
section_leaves = witness_leaves sections_between 0 5 sections_admitted refl (4 ∷ []) refl refl

pub section_reordering : Reorders sections_between (3 ∷ 4 ∷ [])
section_reordering = record { correct = section_leaves.correct; sync = section_leaves.sync }

pub section_reorders : SectionReorders
section_reorders = (
  section_reordering,
  λ r. not_in_order r.sync,
  section_leaves,
  λ l. Memᴰ.not-nil ((l.enabled 5 (Memᴰ.tail (Memᴰ.head refl))).ready 4 (is_earlier sections_between 4 5 refl)),
)
