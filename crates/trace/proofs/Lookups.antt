-- The lookups of the previous event, the last write and the release of an acquire find what the relations name.
use Rattle.std.proofs.Common.{◌≡◌, ℕ, suc, ◌-◌, ◌<◌, ◌≤◌, Bool, true, false, eqb, ◌↔◌, List, length, Some, None, Option, sym, refl, ap, ◌∙◌, arith, None, ◌⊎◌, inl, inr}
use mathlib.Core.Logic.Iff
use Rattle.std.proofs.lemmas.Bool.{both_ways, eqb-true, eq-eqb, and_parts, and_from}
use Rattle.std.specs.List.{slice_get}
use Rattle.trace.specs.declared.event.Event.{Event}
use Rattle.trace.specs.declared.kind.Kind.{Kind}
use Rattle.trace.specs.declared.kind.Kind.TheVariants.{Read, Write, Acquire, Release, Spawn, Join}
use Rattle.trace.specs.Traces.{At, EarlierInThread, Previous, LastWrite, ReleaseOf, SpawnOf, AwaitedEvent, LastAwaited}
use Rattle.trace.specs.Traces.Previous.{in_thread, by_spawn}
use Rattle.trace.specs.Lookups.{reading, writing, of_thread, writes, freeing, previous, last_write, release_of, Finds, PreviousFound, LastWriteFound, ReleaseFound, latest, spawning, spawns, or_found}
use Rattle.trace.proofs.Events.{at_same, at_inside}
use Rattle.trace.proofs.Searches.{Latest, latest_found, latest_from}
use Rattle.trace.proofs.Sections.{before, FreeingIs, freeing_is, freed_release, release_freed, release_only}

-- the tests of an event say what they should
is_reading : (k : Kind) → reading k ≡ true → k ≡ Read
is_reading Read h = refl
is_reading Write h = absurd (grind arith)
is_reading Acquire h = absurd (grind arith)
is_reading Release h = absurd (grind arith)
is_reading Spawn h = absurd (grind arith)
is_reading Join h = absurd (grind arith)

is_writing : (k : Kind) → writing k ≡ true → k ≡ Write
is_writing Write h = refl
is_writing Read h = absurd (grind arith)
is_writing Acquire h = absurd (grind arith)
is_writing Release h = absurd (grind arith)
is_writing Spawn h = absurd (grind arith)
is_writing Join h = absurd (grind arith)

is_spawning : (k : Kind) → spawning k ≡ true → k ≡ Spawn
is_spawning Spawn h = refl
is_spawning Read h = absurd (grind arith)
is_spawning Write h = absurd (grind arith)
is_spawning Acquire h = absurd (grind arith)
is_spawning Release h = absurd (grind arith)
is_spawning Join h = absurd (grind arith)

module _ (e : Event) where
  pub is_write : (x : ℕ) → writes x e ≡ true → (e.kind ≡ Write) × (e.subject ≡ x)
  is_write x h = let (k, s) = and_parts (writing e.kind) (eqb e.subject x) h in (is_writing e.kind k, eqb-true e.subject x s)

  pub as_write : (x : ℕ) → e.kind ≡ Write → e.subject ≡ x → writes x e ≡ true
  as_write x k s = and_from (writing e.kind) (eqb e.subject x) (ap writing k) (eq-eqb e.subject x s)

  pub is_spawn : (p : ℕ) → spawns p e ≡ true → (e.kind ≡ Spawn) × (e.subject ≡ p)
  is_spawn p h = let (k, s) = and_parts (spawning e.kind) (eqb e.subject p) h in (is_spawning e.kind k, eqb-true e.subject p s)

  pub as_spawn : (p : ℕ) → e.kind ≡ Spawn → e.subject ≡ p → spawns p e ≡ true
  as_spawn p k s = and_from (spawning e.kind) (eqb e.subject p) (ap spawning k) (eq-eqb e.subject p s)

-- each relation names the latest event that passes such a test
module _ (t : List Event) (k : ℕ) (e : Event) (i : At t k e) where
  thread_of : (f : Event) → of_thread e.thread f ≡ true → f.thread ≡ e.thread
  thread_of f q = eqb-true f.thread e.thread q

  own : {m : ℕ} (h : EarlierInThread t m k) → of_thread e.thread h.first ≡ true
  own h =
      let one : h.second ≡ e = at_same t k h.second e h.second_is i in
      eq-eqb h.first.thread e.thread (h.same_thread ∙ ap (λ (f : Event). f.thread) one)

  as_earlier : (m : ℕ) (f : Event) → m < k → At t m f → of_thread e.thread f ≡ true → EarlierInThread t m k
  as_earlier m f b j q = record { before = b; first = f; second = e; first_is = j; second_is = i; same_thread = thread_of f q }

  spawns_own : {m : ℕ} (h : SpawnOf t m k) → spawns e.thread h.spawn ≡ true
  spawns_own h =
      let one : h.event ≡ e = at_same t k h.event e h.event_is i in
      as_spawn h.spawn e.thread h.is_spawn (h.names ∙ ap (λ (f : Event). f.thread) one)

  as_spawn_of : (m : ℕ) (f : Event) → m < k → At t m f → spawns e.thread f ≡ true → SpawnOf t m k
  as_spawn_of m f b j q =
      let (kind, thread) = is_spawn f e.thread q in
      record { before = b; spawn = f; event = e; spawn_is = j; event_is = i; is_spawn = kind; names = thread }

  -- the previous event is the latest earlier one of the thread, and where there is none the latest earlier spawn of it
  latest_earlier : (d : ℕ) → Latest (of_thread e.thread) t k d → EarlierInThread t d k × ((m : ℕ) → d < m → EarlierInThread t m k → ⊥)
  latest_earlier d l = (as_earlier d l.event l.before l.is l.does, λ m g h. l.none_between m h.first g h.before h.first_is (own h))

  earlier_latest : (d : ℕ) → EarlierInThread t d k → ((m : ℕ) → d < m → EarlierInThread t m k → ⊥) → Latest (of_thread e.thread) t k d
  earlier_latest d h none = record {
    before = h.before;
    event = h.first;
    is = h.first_is;
    does = own h;
    none_between = λ m f g b j q. none m g (as_earlier m f b j q);
  }

  latest_spawn : (d : ℕ) → Latest (spawns e.thread) t k d → SpawnOf t d k × ((m : ℕ) → d < m → SpawnOf t m k → ⊥)
  latest_spawn d l = (as_spawn_of d l.event l.before l.is l.does, λ m g h. l.none_between m h.spawn g h.before h.spawn_is (spawns_own h))

  spawn_latest : (d : ℕ) → SpawnOf t d k → ((m : ℕ) → d < m → SpawnOf t m k → ⊥) → Latest (spawns e.thread) t k d
  spawn_latest d h none = record {
    before = h.before;
    event = h.spawn;
    is = h.spawn_is;
    does = spawns_own h;
    none_between = λ m f g b j q. none m g (as_spawn_of m f b j q);
  }

  -- where no earlier event of the thread is found there is none
  none_earlier : latest (of_thread e.thread) t k ≡ None → (m : ℕ) → EarlierInThread t m k → ⊥
  none_earlier none m h =
      let (p, l, b) = latest_from (of_thread e.thread) t k m h.first h.before h.first_is (own h) in
      let some = (latest_found (of_thread e.thread) t k p).1 l in
      grind arith

  previous_either : (d : ℕ) → (or_found (latest (of_thread e.thread) t k) (latest (spawns e.thread) t k) ≡ Some d) ↔ Previous t k d
  previous_either d = of_found (latest (of_thread e.thread) t k) refl
    where
      of_found : (o : Option ℕ) → latest (of_thread e.thread) t k ≡ o → (or_found o (latest (spawns e.thread) t k) ≡ Some d) ↔ Previous t k d
      of_found (Some p) found = (
        λ q. let (h, none) = latest_earlier d ((latest_found (of_thread e.thread) t k d).0 (found ∙ q)) in in_thread h none,
        back,
      )
        where
          back : Previous t k d → Some p ≡ Some d
          back (in_thread h none) = sym found ∙ (latest_found (of_thread e.thread) t k d).1 (earlier_latest d h none)
          back (by_spawn h none later) =
              absurd (none p (latest_earlier p ((latest_found (of_thread e.thread) t k p).0 found)).0)
      of_found None found = (
        λ q. let (h, later) = latest_spawn d ((latest_found (spawns e.thread) t k d).0 q) in by_spawn h (none_earlier found) later,
        back,
      )
        where
          back : Previous t k d → latest (spawns e.thread) t k ≡ Some d
          back (in_thread h none) = absurd (none_earlier found d h)
          back (by_spawn h none later) = (latest_found (spawns e.thread) t k d).1 (spawn_latest d h later)

  -- the last write of a read is the latest earlier write to its variable
  last_write_latest : e.kind ≡ Read → (w : ℕ) → Latest (writes e.subject) t k w ↔ LastWrite t k w
  last_write_latest read w = (
    λ l. record {
      before = l.before;
      read = e;
      write = l.event;
      read_is = i;
      write_is = l.is;
      is_read = read;
      is_write = (is_write l.event e.subject l.does).0;
      same_variable = (is_write l.event e.subject l.does).1;
      none_between = λ m f g b j q v. l.none_between m f g b j (as_write f e.subject q v);
    },
    λ l.
        let own : l.read.subject ≡ e.subject = ap (λ f. f.subject) (at_same t k l.read e l.read_is i) in
        record {
          before = l.before;
          event = l.write;
          is = l.write_is;
          does = as_write l.write e.subject l.is_write (l.same_variable ∙ own);
          none_between = λ m f g b j q. let (kind, variable) = is_write f e.subject q in l.none_between m f g b j kind (variable ∙ sym own);
        },
  )

-- a lookup that finds just what stands in a relation finds none just if there is none
finds : (o : Option ℕ) (R : ℕ → Type 0) → ((p : ℕ) → (o ≡ Some p) ↔ R p) → Finds o R
finds o R some = (some, (λ q p r. let z = (some p).1 r in grind arith, λ nothing. none nothing o refl))
  where
    none : ((p : ℕ) → R p → ⊥) → (u : Option ℕ) → o ≡ u → u ≡ None
    none nothing None q = refl
    none nothing (Some p) q = absurd (nothing p ((some p).0 q))

-- what has a previous event is an event, and so is the previous event, which stands before it
pub previous_of : (t : List Event) (k d : ℕ) → Previous t k d → (e : Event) × At t k e
previous_of t k d (in_thread h none) = (h.second, h.second_is)
previous_of t k d (by_spawn h none later) = (h.event, h.event_is)

pub previous_at : (t : List Event) (k d : ℕ) → Previous t k d → (e : Event) × At t d e × (d < k)
previous_at t k d (in_thread h none) = (h.first, h.first_is, h.before)
previous_at t k d (by_spawn h none later) = (h.spawn, h.spawn_is, h.before)

-- the lookup of previous events is right
pub previous_found : PreviousFound
previous_found t k = finds (previous t k) (Previous t k) (λ d. at_event d (slice_get t k) refl)
  where
    at_event : (d : ℕ) (o : Option Event) → slice_get t k ≡ o → (previous t k ≡ Some d) ↔ Previous t k d
    at_event d None i = rw i (λ q. absurd (grind arith), λ p. absurd (let (e, j) = previous_of t k d p in grind arith))
    at_event d (Some e) i = rw i (previous_either t k e i d)

-- the lookup of last writes is right
pub last_write_found : LastWriteFound
last_write_found t k = finds (last_write t k) (LastWrite t k) (λ w. at_event w (slice_get t k) refl)
  where
    at_event : (w : ℕ) (o : Option Event) → slice_get t k ≡ o → (last_write t k ≡ Some w) ↔ LastWrite t k w
    at_event w None i = rw i (λ q. absurd (grind arith), λ l. let j = l.read_is in absurd (grind arith))
    at_event w (Some e) i = of_test (reading e.kind) refl
      where
        of_test : (b : Bool) → reading e.kind ≡ b → (last_write t k ≡ Some w) ↔ LastWrite t k w
        of_test true q = rw (i, q) (Iff.trans (latest_found (writes e.subject) t k w) (last_write_latest t k e i (is_reading e.kind q) w))
        of_test false q = rw (i, q) (λ z. absurd (grind arith), λ l. absurd (no_read l))
          where
            no_read : LastWrite t k w → ⊥
            no_read l = both_ways (reading e.kind) q (ap (λ (f : Event). reading f.kind) (at_same t k e l.read i l.read_is) ∙ ap reading l.is_read)

-- the lookup of releases is right at acquires
pub release_found : ReleaseFound
release_found t a e here acquires = finds (release_of t a) (ReleaseOf t a) (λ r. rw here (search_found r))
  where
    search : Option ℕ
    search = freeing e.thread e.subject t (before e.thread e.subject t (suc a)) (suc a) (length t - suc a)

    search_found : (r : ℕ) → (search ≡ Some r) ↔ ReleaseOf t a r
    search_found r = (λ q. freed_release t a e here acquires r (rw q at is).0, λ h. back h search is)
      where
        is : FreeingIs e.thread e.subject t (suc a) (length t - suc a) search
        is = freeing_is e.thread e.subject t (length t - suc a) (suc a) (before e.thread e.subject t (suc a)) refl

        back : ReleaseOf t a r → (x : Option ℕ) → FreeingIs e.thread e.subject t (suc a) (length t - suc a) x → x ≡ Some r
        back h None none =
            let f = release_freed t a e here acquires r h in
            let i = at_inside t r h.release h.frees.is in
            absurd (omega (arith, none r f.from (omega (arith, f.from)), f.out))
        back h (Some q) (f, b) = ap Some (release_only t a e here acquires q r (freed_release t a e here acquires q f) h)

-- if k has an earlier event of its thread, its previous event is one, and no earlier than that
pub previous_from : (t : List Event) (d k : ℕ) → EarlierInThread t d k → (p : ℕ) × Previous t k p × EarlierInThread t p k × (d ≤ p)
previous_from t d k h =
    let (p, l, b) = latest_from (of_thread h.second.thread) t k d h.first h.before h.first_is
    (eq-eqb h.first.thread h.second.thread h.same_thread) in
    let (earlier, none) = latest_earlier t k h.second h.second_is p l in
    (p, in_thread earlier none, earlier, b)

-- if it has none and its thread was spawned, its previous event is a spawn of its thread
pub spawn_from : (t : List Event) (s k : ℕ) → SpawnOf t s k → ((m : ℕ) → EarlierInThread t m k → ⊥) → (p : ℕ) × Previous t k p × SpawnOf t p k
spawn_from t s k h none =
    let (p, l, b) = latest_from (spawns h.event.thread) t k s h.spawn h.before h.spawn_is (as_spawn h.spawn h.event.thread h.is_spawn h.names) in
    let (spawn, later) = latest_spawn t k h.event h.event_is p l in
    (p, by_spawn spawn none later, spawn)

-- it has an earlier event of its thread, or none
pub earlier_or_none : (t : List Event) (k : ℕ) (e : Event) → At t k e → ((d : ℕ) × EarlierInThread t d k) ⊎ ((m : ℕ) → EarlierInThread t m k → ⊥)
earlier_or_none t k e i = of_found (latest (of_thread e.thread) t k) refl
  where
    of_found : (o : Option ℕ) → latest (of_thread e.thread) t k ≡ o → ((d : ℕ) × EarlierInThread t d k) ⊎ ((m : ℕ) → EarlierInThread t m k → ⊥)
    of_found (Some p) found = inl (p, (latest_earlier t k e i p ((latest_found (of_thread e.thread) t k p).0 found)).0)
    of_found None found = inr (none_earlier t k e i found)

-- if a join awaits an event, it awaits a last one, and no earlier than that
pub last_awaited_from : (t : List Event) (d k : ℕ) → AwaitedEvent t d k → (l : ℕ) × LastAwaited t l k × (d ≤ l)
last_awaited_from t d k h =
    let test = of_thread h.join.subject in
    let (p, l, b) = latest_from test t k d h.event h.before h.event_is (eq-eqb h.event.thread h.join.subject h.names) in (
      p,
      record {
        awaited = record {
          before = l.before;
          event = l.event;
          join = h.join;
          event_is = l.is;
          join_is = h.join_is;
          is_join = h.is_join;
          names = eqb-true l.event.thread h.join.subject l.does;
        };
        none_later = λ m g a.
            let one : a.join ≡ h.join = at_same t k a.join h.join a.join_is h.join_is in
            l.none_between m a.event g a.before a.event_is (eq-eqb a.event.thread h.join.subject (a.names ∙ ap (λ (x : Event). x.subject) one));
      },
      b,
    )

-- if the variable of a read was written before, the read has a last write, and no earlier than that one
pub last_write_from : (t : List Event) (k m : ℕ) (e f : Event) → At t k e → e.kind ≡ Read → At t m f → m < k → f.kind ≡ Write
    → f.subject ≡ e.subject → (w : ℕ) × LastWrite t k w × (m ≤ w)
last_write_from t k m e f i read j b q r =
    let (w, l, n) = latest_from (writes e.subject) t k m f b j (as_write f e.subject q r) in
    (w, (last_write_latest t k e i read w).0 l, n)
