-- Which positions of a trace have an event, and what a trace and a longer one have in common.
use Rattle.std.proofs.Common.{◌≡◌, ℕ, zero, suc, ◌<◌, List, [], ◌∷◌, ◌++◌, length, sym, refl, ◌∙◌, arith}
use Rattle.std.specs.List.{slice_get}
use Rattle.std.proofs.lemmas.List.{take-append-le}
use Rattle.trace.specs.declared.event.Event.{Event}
use Rattle.trace.specs.Traces.{At, Outer, Frees, EarlierInThread, SpawnOf, AwaitedSpawn, AwaitedEvent, LastAwaited, LastWrite, ReleaseOf}

-- an event stands below the length
pub at_inside : (t : List Event) (k : ℕ) (e : Event) → At t k e → k < length t
at_inside [] k e h = absurd (grind arith)
at_inside (x ∷ t) zero e h = omega arith
at_inside (x ∷ t) (suc k) e h = let r : k < length t = at_inside t k e h in omega arith

-- and each position below the length has one
pub at_some : (t : List Event) (k : ℕ) → k < length t → (e : Event) × At t k e
at_some [] k h = absurd (omega arith)
at_some (x ∷ t) zero h = (x, refl)
at_some (x ∷ t) (suc k) h = at_some t k (omega arith)

-- a position has one event at most
pub at_same : (t : List Event) (k : ℕ) (e f : Event) → At t k e → At t k f → e ≡ f
at_same t k e f p q = cc

-- an earlier event of a thread is earlier than all that come after it in the thread
pub earlier_chain : (t : List Event) (i j k : ℕ) → EarlierInThread t i j → EarlierInThread t j k → EarlierInThread t i k
earlier_chain t i j k a b =
    let e = at_same t j a.second b.first a.second_is b.first_is in
    record { before = omega arith; first = a.first; second = b.second; first_is = a.first_is; second_is = b.second_is; same_thread = cc }

-- of two earlier events of a thread, the one that stands before the other is an earlier event of it
pub earlier_between : (t : List Event) (d p k : ℕ) → EarlierInThread t d k → EarlierInThread t p k → d < p → EarlierInThread t d p
earlier_between t d p k a b h =
    let e = at_same t k a.second b.second a.second_is b.second_is in
    record { before = h; first = a.first; second = b.first; first_is = a.first_is; second_is = b.first_is; same_thread = cc }

-- a longer trace has the same events at the positions of the shorter
pub nth_front : (t u : List Event) (k : ℕ) → k < length t → slice_get (t ++ u) k ≡ slice_get t k
nth_front [] u k h = absurd (omega arith)
nth_front (x ∷ t) u zero h = refl
nth_front (x ∷ t) u (suc k) h = nth_front t u k (omega arith)

module _ (t u : List Event) where
  pub at_longer : (k : ℕ) (e : Event) → At t k e → At (t ++ u) k e
  at_longer k e h = nth_front t u k (at_inside t k e h) ∙ h

  pub at_shorter : (k : ℕ) (e : Event) → k < length t → At (t ++ u) k e → At t k e
  at_shorter k e h p = sym (nth_front t u k h) ∙ p

  -- so what relates its events by thread, by last write and by release relates them in the longer one, and the other way round
  pub earlier_longer : (d k : ℕ) → EarlierInThread t d k → EarlierInThread (t ++ u) d k
  earlier_longer d k h = record {
    before = h.before;
    first = h.first;
    second = h.second;
    first_is = at_longer d h.first h.first_is;
    second_is = at_longer k h.second h.second_is;
    same_thread = h.same_thread;
  }

  pub earlier_shorter : (d k : ℕ) → k < length t → EarlierInThread (t ++ u) d k → EarlierInThread t d k
  earlier_shorter d k i h = record {
    before = h.before;
    first = h.first;
    second = h.second;
    first_is = at_shorter d h.first (omega arith) h.first_is;
    second_is = at_shorter k h.second i h.second_is;
    same_thread = h.same_thread;
  }

  -- spawns of an event's thread, and what a join awaits
  pub spawn_longer : (s k : ℕ) → SpawnOf t s k → SpawnOf (t ++ u) s k
  spawn_longer s k h = record {
    before = h.before;
    spawn = h.spawn;
    event = h.event;
    spawn_is = at_longer s h.spawn h.spawn_is;
    event_is = at_longer k h.event h.event_is;
    is_spawn = h.is_spawn;
    names = h.names;
  }

  pub spawn_shorter : (s k : ℕ) → k < length t → SpawnOf (t ++ u) s k → SpawnOf t s k
  spawn_shorter s k i h = record {
    before = h.before;
    spawn = h.spawn;
    event = h.event;
    spawn_is = at_shorter s h.spawn (omega (arith, h.before)) h.spawn_is;
    event_is = at_shorter k h.event i h.event_is;
    is_spawn = h.is_spawn;
    names = h.names;
  }

  pub awaited_spawn_longer : (s k : ℕ) → AwaitedSpawn t s k → AwaitedSpawn (t ++ u) s k
  awaited_spawn_longer s k h = record {
    before = h.before;
    spawn = h.spawn;
    join = h.join;
    spawn_is = at_longer s h.spawn h.spawn_is;
    join_is = at_longer k h.join h.join_is;
    is_spawn = h.is_spawn;
    is_join = h.is_join;
    names = h.names;
  }

  pub awaited_spawn_shorter : (s k : ℕ) → k < length t → AwaitedSpawn (t ++ u) s k → AwaitedSpawn t s k
  awaited_spawn_shorter s k i h = record {
    before = h.before;
    spawn = h.spawn;
    join = h.join;
    spawn_is = at_shorter s h.spawn (omega (arith, h.before)) h.spawn_is;
    join_is = at_shorter k h.join i h.join_is;
    is_spawn = h.is_spawn;
    is_join = h.is_join;
    names = h.names;
  }

  awaited_longer : (d k : ℕ) → AwaitedEvent t d k → AwaitedEvent (t ++ u) d k
  awaited_longer d k h = record {
    before = h.before;
    event = h.event;
    join = h.join;
    event_is = at_longer d h.event h.event_is;
    join_is = at_longer k h.join h.join_is;
    is_join = h.is_join;
    names = h.names;
  }

  awaited_shorter : (d k : ℕ) → k < length t → AwaitedEvent (t ++ u) d k → AwaitedEvent t d k
  awaited_shorter d k i h = record {
    before = h.before;
    event = h.event;
    join = h.join;
    event_is = at_shorter d h.event (omega (arith, h.before)) h.event_is;
    join_is = at_shorter k h.join i h.join_is;
    is_join = h.is_join;
    names = h.names;
  }

  pub last_awaited_longer : (d k : ℕ) → LastAwaited t d k → LastAwaited (t ++ u) d k
  last_awaited_longer d k h =
      let i = at_inside t k h.awaited.join h.awaited.join_is in
      record { awaited = awaited_longer d k h.awaited; none_later = λ m b a. h.none_later m b (awaited_shorter m k i a) }

  pub last_awaited_shorter : (d k : ℕ) → k < length t → LastAwaited (t ++ u) d k → LastAwaited t d k
  last_awaited_shorter d k i h = record { awaited = awaited_shorter d k i h.awaited; none_later = λ m b a. h.none_later m b (awaited_longer m k a) }

  -- last writes
  pub last_write_longer : (k w : ℕ) → LastWrite t k w → LastWrite (t ++ u) k w
  last_write_longer k w h =
      let i : k < length t = at_inside t k h.read h.read_is in
      record {
        before = h.before;
        read = h.read;
        write = h.write;
        read_is = at_longer k h.read h.read_is;
        write_is = at_longer w h.write h.write_is;
        is_read = h.is_read;
        is_write = h.is_write;
        same_variable = h.same_variable;
        none_between = λ m e a b p. h.none_between m e a b (at_shorter m e (omega arith) p);
      }

  pub last_write_shorter : (k w : ℕ) → k < length t → LastWrite (t ++ u) k w → LastWrite t k w
  last_write_shorter k w i h = record {
    before = h.before;
    read = h.read;
    write = h.write;
    read_is = at_shorter k h.read i h.read_is;
    write_is = at_shorter w h.write (omega arith) h.write_is;
    is_read = h.is_read;
    is_write = h.is_write;
    same_variable = h.same_variable;
    none_between = λ m e a b p. h.none_between m e a b (at_longer m e p);
  }

  -- outer acquires, releases that free their locks, and releases of acquires
  pub outer_longer : (k : ℕ) (e : Event) → Outer t k e → Outer (t ++ u) k e
  outer_longer k e h =
      let i = at_inside t k e h.is in
      record { is = at_longer k e h.is; is_acquire = h.is_acquire; outside = rw (take-append-le k t u (omega arith)) h.outside }

  pub outer_shorter : (k : ℕ) (e : Event) → k < length t → Outer (t ++ u) k e → Outer t k e
  outer_shorter k e i h =
      record { is = at_shorter k e i h.is; is_acquire = h.is_acquire; outside = rw (take-append-le k t u (omega arith)) at h.outside }

  pub frees_longer : (k : ℕ) (e : Event) → Frees t k e → Frees (t ++ u) k e
  frees_longer k e h =
      let i = at_inside t k e h.is in
      record { is = at_longer k e h.is; is_release = h.is_release; last = rw (take-append-le k t u (omega arith)) h.last }

  pub frees_shorter : (k : ℕ) (e : Event) → k < length t → Frees (t ++ u) k e → Frees t k e
  frees_shorter k e i h =
      record { is = at_shorter k e i h.is; is_release = h.is_release; last = rw (take-append-le k t u (omega arith)) at h.last }

  pub release_longer : (a r : ℕ) → ReleaseOf t a r → ReleaseOf (t ++ u) a r
  release_longer a r h =
      let i : r < length t = at_inside t r h.release h.frees.is in
      record {
        after = h.after;
        acquire = h.acquire;
        release = h.release;
        acquire_is = at_longer a h.acquire h.acquire_is;
        is_acquire = h.is_acquire;
        frees = frees_longer r h.release h.frees;
        same_lock = h.same_lock;
        same_thread = h.same_thread;
        none_between = λ m e b c p. h.none_between m e b c (frees_shorter m e (omega arith) p);
      }

  pub release_shorter : (a r : ℕ) → r < length t → ReleaseOf (t ++ u) a r → ReleaseOf t a r
  release_shorter a r i h = record {
    after = h.after;
    acquire = h.acquire;
    release = h.release;
    acquire_is = at_shorter a h.acquire (omega (arith, h.after)) h.acquire_is;
    is_acquire = h.is_acquire;
    frees = frees_shorter r h.release i h.frees;
    same_lock = h.same_lock;
    same_thread = h.same_thread;
    none_between = λ m e b c p. h.none_between m e b c (frees_longer m e p);
  }
