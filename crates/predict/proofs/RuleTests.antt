-- The three rules as tests that compute.
use Rattle.std.proofs.Common.{◌≡◌, ℕ, ◌<◌, Bool, true, false, ◌&&◌, ◌||◌, eqb, ltb, List, length, Some, None, Option, cond, sym, refl, ap, ◌∙◌, ⊎_elim, arith}
use Rattle.std.specs.List.{slice_get}
use Rattle.std.proofs.lemmas.Bool.{and_parts, and_from, or_cases, or_left, or_right, ltb-true, lt-ltb, eqb-true, eq-eqb}
use Rattle.trace.specs.declared.event.Event.{Event}
use Rattle.trace.specs.declared.kind.Kind.{Kind}
use Rattle.trace.specs.declared.kind.Kind.TheVariants.{Read, Write, Acquire, Release, Spawn, Join}
use Rattle.trace.specs.Traces.{At, depth_at, Outer, Frees, SpawnOf, AwaitedSpawn, LastAwaited}
use Rattle.trace.specs.Lookups.{fits_here, latest, of_thread, spawns, from_event, last_write, release_of}
use Rattle.trace.specs.Cuts.{Positions, In, Wants, ThreadWants, SyncWants, HappensBeforeWants, SchedulableWants}
use Rattle.trace.specs.Cuts.SyncWants.{of_threads, last_write as of_read, earlier_release}
use Rattle.trace.specs.Cuts.ThreadWants.{spawn, awaited_spawn, awaited_last}
use Rattle.trace.specs.Cuts.HappensBeforeWants.{of_threads as before_threads, release_before}
use Rattle.trace.specs.Cuts.SchedulableWants.{as_before, last_write as read_by_lem}
use Rattle.trace.proofs.Events.{at_inside, at_same}
use Rattle.trace.proofs.Lookups.{is_spawn, as_spawn, last_write_found, release_found}
use Rattle.trace.proofs.Searches.{Latest, latest_found}
use Rattle.predict.specs.Parts.{acquires, joining, ReadWants}
use Rattle.predict.proofs.ThreadParts.{is_joining}
use Rattle.predict.proofs.Inside.{tested}
use Rattle.predict.proofs.LockParts.{is_acquire, as_acquire}
use Rattle.predict.proofs.Tests.{some_below, some_found, some_from, finds, found, found_from}

-- a test whether a cut wants a position
abbrev pub Test : Type 0
Test = List Event → Positions → ℕ → Bool

-- a test decides a rule
pub record Decides (wants : Wants) (test : Test) : Type 0 where
  pub wanted : (t : List Event) (c : Positions) (w : ℕ) → test t c w ≡ true → wants t c w
  pub passes : (t : List Event) (c : Positions) (w : ℕ) → wants t c w → test t c w ≡ true

-- whether either of two tests passes
abbrev pub either : Test → Test → Test
either one two t c w = one t c w || two t c w

-- whether a test passes at a position of the cut
abbrev pub some_in : (List Event → ℕ → ℕ → Bool) → Test
some_in test t c w = some_below (λ k. c k && test t k w) (length t)

module _ (test : List Event → ℕ → ℕ → Bool) (t : List Event) (c : Positions) (w : ℕ) where
  -- there is such a position, and where there is one the test passes
  pub some_inside : some_in test t c w ≡ true → (k : ℕ) × In k c × (test t k w ≡ true)
  some_inside h =
      let (k, b) = some_found (λ k. c k && test t k w) (length t) h in
      let (i, q) = and_parts (c k) (test t k w) b in
      (k, i, q)

  pub some_in_from : (k : ℕ) (e : Event) → At t k e → In k c → test t k w ≡ true → some_in test t c w ≡ true
  some_in_from k e is i h = some_from (λ k. c k && test t k w) (length t) k (at_inside t k e is) (and_from (c k) (test t k w) i h)

-- a read wants its last write
abbrev pub read_test : List Event → ℕ → ℕ → Bool
read_test t k w = finds (last_write t k) w

reads_decided : Decides ReadWants (some_in read_test)
reads_decided = record {
  wanted = λ t c w h.
      let (k, i, q) = some_inside read_test t c w h in
      record { read = k; inside = i; last_write = ((last_write_found t k).0 w).0 (found (last_write t k) w q) };
  passes = λ t c w h.
      let l = h.last_write in
      some_in_from read_test t c w h.read l.read l.read_is h.inside (found_from (last_write t h.read) w (((last_write_found t h.read).0 w).1 l));
}

-- the last event that a join awaits
abbrev pub last_awaited : List Event → ℕ → Option ℕ
last_awaited t k = from_event (λ e. cond (joining e.kind) (latest (of_thread e.subject) t k) None) (slice_get t k)

awaited_found : (t : List Event) (k w : ℕ) → last_awaited t k ≡ Some w → LastAwaited t w k
awaited_found t k w = at_event (slice_get t k) refl
  where
    of_join : (e : Event) → At t k e → e.kind ≡ Join → Latest (of_thread e.subject) t k w → LastAwaited t w k
    of_join e i join l = record {
      awaited = record { before = l.before; event = l.event; join = e; event_is = l.is; join_is = i; is_join = join; names = eqb-true l.event.thread e.subject l.does };
      none_later = λ m g a. l.none_between m a.event g a.before a.event_is
          (eq-eqb a.event.thread e.subject (a.names ∙ ap (λ (x : Event). x.subject) (at_same t k a.join e a.join_is i)));
    }

    at_event : (o : Option Event) → slice_get t k ≡ o → from_event (λ e. cond (joining e.kind) (latest (of_thread e.subject) t k) None) o ≡ Some w
        → LastAwaited t w k
    at_event None i q = absurd (grind arith)
    at_event (Some e) i q = of_test (joining e.kind) refl q
      where
        of_test : (b : Bool) → joining e.kind ≡ b → cond b (latest (of_thread e.subject) t k) None ≡ Some w → LastAwaited t w k
        of_test true h r = of_join e i (is_joining e.kind h) ((latest_found (of_thread e.subject) t k w).0 r)
        of_test false h r = absurd (grind arith)

found_awaited : (t : List Event) (k w : ℕ) → LastAwaited t w k → last_awaited t k ≡ Some w
found_awaited t k w l =
    let h = l.awaited in
    rw (h.join_is, ap joining h.is_join) ((latest_found (of_thread h.join.subject) t k w).1 (record {
      before = h.before;
      event = h.event;
      is = h.event_is;
      does = eq-eqb h.event.thread h.join.subject h.names;
      none_between = λ m f g b i q. l.none_later m g
          (record { before = b; event = f; join = h.join; event_is = i; join_is = h.join_is; is_join = h.is_join; names = eqb-true f.thread h.join.subject q });
    }))

-- w is an earlier spawn of the thread of k, or of the thread that k awaits
abbrev pub spawn_test : List Event → ℕ → ℕ → Bool
spawn_test t k w = ltb w k && fits_here (λ e. fits_here (spawns e.thread) (slice_get t w)) (slice_get t k)

abbrev pub awaited_spawn_test : List Event → ℕ → ℕ → Bool
awaited_spawn_test t k w = ltb w k && fits_here (λ e. joining e.kind && fits_here (spawns e.subject) (slice_get t w)) (slice_get t k)

abbrev pub awaited_test : List Event → ℕ → ℕ → Bool
awaited_test t k w = finds (last_awaited t k) w

-- what every rule wants
abbrev pub thread_test : Test
thread_test = either (some_in spawn_test) (either (some_in awaited_spawn_test) (some_in awaited_test))

module _ (t : List Event) (k w : ℕ) where
  is_spawn_of : spawn_test t k w ≡ true → SpawnOf t w k
  is_spawn_of h =
      let (b, r) = and_parts (ltb w k) (fits_here (λ e. fits_here (spawns e.thread) (slice_get t w)) (slice_get t k)) h in
      let (e, at-k, q) = tested (λ e. fits_here (spawns e.thread) (slice_get t w)) (slice_get t k) r in
      let (f, at-w, does) = tested (spawns e.thread) (slice_get t w) q in
      let (kind, thread) = is_spawn f e.thread does in
      record { before = ltb-true w k b; spawn = f; event = e; spawn_is = at-w; event_is = at-k; is_spawn = kind; names = thread }

  as_spawn_of : SpawnOf t w k → spawn_test t k w ≡ true
  as_spawn_of h =
      and_from (ltb w k) (fits_here (λ e. fits_here (spawns e.thread) (slice_get t w)) (slice_get t k)) (lt-ltb w k h.before)
      (rw (h.event_is, h.spawn_is) (as_spawn h.spawn h.event.thread h.is_spawn h.names))

  is_awaited_spawn : awaited_spawn_test t k w ≡ true → AwaitedSpawn t w k
  is_awaited_spawn h =
      let (b, r) = and_parts (ltb w k) (fits_here (λ e. joining e.kind && fits_here (spawns e.subject) (slice_get t w)) (slice_get t k)) h in
      let (e, at-k, q) = tested (λ e. joining e.kind && fits_here (spawns e.subject) (slice_get t w)) (slice_get t k) r in
      let (join, s) = and_parts (joining e.kind) (fits_here (spawns e.subject) (slice_get t w)) q in
      let (f, at-w, does) = tested (spawns e.subject) (slice_get t w) s in
      let (kind, thread) = is_spawn f e.subject does in
      record {
        before = ltb-true w k b;
        spawn = f;
        join = e;
        spawn_is = at-w;
        join_is = at-k;
        is_spawn = kind;
        is_join = is_joining e.kind join;
        names = thread;
      }

  as_awaited_spawn : AwaitedSpawn t w k → awaited_spawn_test t k w ≡ true
  as_awaited_spawn h =
      and_from (ltb w k) (fits_here (λ e. joining e.kind && fits_here (spawns e.subject) (slice_get t w)) (slice_get t k)) (lt-ltb w k h.before)
      (rw (h.join_is, h.spawn_is) (and_from (joining h.join.kind) (spawns h.join.subject h.spawn) (ap joining h.is_join)
      (as_spawn h.spawn h.join.subject h.is_spawn h.names)))

threads_decided : Decides ThreadWants thread_test
threads_decided = record { wanted = wanted; passes = passes }
  where
    wanted : (t : List Event) (c : Positions) (w : ℕ) → thread_test t c w ≡ true → ThreadWants t c w
    wanted t c w h = ⊎_elim
        (λ b. let (k, i, q) = some_inside spawn_test t c w b in spawn i (is_spawn_of t k w q))
        (λ b. ⊎_elim (λ d. let (k, i, q) = some_inside awaited_spawn_test t c w d in awaited_spawn i (is_awaited_spawn t k w q))
        (λ d. let (k, i, q) = some_inside awaited_test t c w d in awaited_last i (awaited_found t k w (found (last_awaited t k) w q)))
        (or_cases (some_in awaited_spawn_test t c w) (some_in awaited_test t c w) b))
        (or_cases (some_in spawn_test t c w) (either (some_in awaited_spawn_test) (some_in awaited_test) t c w) h)

    passes : (t : List Event) (c : Positions) (w : ℕ) → ThreadWants t c w → thread_test t c w ≡ true
    passes t c w (spawn {k} i h) = or_left (some_in spawn_test t c w) (either (some_in awaited_spawn_test) (some_in awaited_test) t c w)
        (some_in_from spawn_test t c w k h.event h.event_is i (as_spawn_of t k w h))
    passes t c w (awaited_spawn {k} i h) = or_right (some_in spawn_test t c w) (either (some_in awaited_spawn_test) (some_in awaited_test) t c w)
        (or_left (some_in awaited_spawn_test t c w) (some_in awaited_test t c w)
        (some_in_from awaited_spawn_test t c w k h.join h.join_is i (as_awaited_spawn t k w h)))
    passes t c w (awaited_last {k} i h) = or_right (some_in spawn_test t c w) (either (some_in awaited_spawn_test) (some_in awaited_test) t c w)
        (or_right (some_in awaited_spawn_test t c w) (some_in awaited_test t c w)
        (some_in_from awaited_test t c w k h.awaited.join h.awaited.join_is i (found_from (last_awaited t k) w (found_awaited t k w h))))

-- an outer acquire of the lock l, and a release that frees it
abbrev pub outer_here : List Event → ℕ → ℕ → Event → Bool
outer_here t l k e = acquires l e && eqb (depth_at t k e) 0

abbrev pub releasing : Kind → Bool
releasing Read = false
releasing Write = false
releasing Acquire = false
releasing Release = true
releasing Spawn = false
releasing Join = false

is_releasing : (k : Kind) → releasing k ≡ true → k ≡ Release
is_releasing Release h = refl
is_releasing Read h = absurd (grind arith)
is_releasing Write h = absurd (grind arith)
is_releasing Acquire h = absurd (grind arith)
is_releasing Spawn h = absurd (grind arith)
is_releasing Join h = absurd (grind arith)

abbrev pub frees_here : List Event → ℕ → ℕ → Event → Bool
frees_here t l k e = (releasing e.kind && eqb e.subject l) && eqb (depth_at t k e) 1

module _ (t : List Event) (l k : ℕ) (e : Event) (i : At t k e) where
  is_outer : outer_here t l k e ≡ true → Outer t k e × (e.subject ≡ l)
  is_outer h =
      let (a, d) = and_parts (acquires l e) (eqb (depth_at t k e) 0) h in
      let (kind, lock) = is_acquire e l a in
      (record { is = i; is_acquire = kind; outside = eqb-true (depth_at t k e) 0 d }, lock)

  as_outer : Outer t k e → e.subject ≡ l → outer_here t l k e ≡ true
  as_outer o lock = and_from (acquires l e) (eqb (depth_at t k e) 0) (as_acquire e l o.is_acquire lock) (eq-eqb (depth_at t k e) 0 o.outside)

  is_freeing : frees_here t l k e ≡ true → Frees t k e × (e.subject ≡ l)
  is_freeing h =
      let (a, d) = and_parts (releasing e.kind && eqb e.subject l) (eqb (depth_at t k e) 1) h in
      let (kind, lock) = and_parts (releasing e.kind) (eqb e.subject l) a in
      (record { is = i; is_release = is_releasing e.kind kind; last = eqb-true (depth_at t k e) 1 d }, eqb-true e.subject l lock)

  as_freeing : Frees t k e → e.subject ≡ l → frees_here t l k e ≡ true
  as_freeing f lock =
      and_from (releasing e.kind && eqb e.subject l) (eqb (depth_at t k e) 1)
      (and_from (releasing e.kind) (eqb e.subject l) (ap releasing f.is_release) (eq-eqb e.subject l lock)) (eq-eqb (depth_at t k e) 1 f.last)

-- w is an event that fits the lock of the outer acquire k, and stands before it
abbrev pub Fitting : Type 0
Fitting = List Event → ℕ → ℕ → Event → Bool

abbrev pub before_acquire : Fitting → List Event → ℕ → ℕ → Bool
before_acquire fits t k w = ltb w k && fits_here (λ e. outer_here t e.subject k e && fits_here (fits t e.subject w) (slice_get t w)) (slice_get t k)

-- the same as a relation, which the test decides
pub record BeforeAcquire (fits : Fitting) (t : List Event) (k w : ℕ) : Type 0 where
  pub before : w < k
  pub acquire : Event
  pub event : Event
  pub outer : Outer t k acquire
  pub event_is : At t w event
  pub does : fits t acquire.subject w event ≡ true

module _ (fits : Fitting) (t : List Event) (k w : ℕ) where
  pub is_before_acquire : before_acquire fits t k w ≡ true → BeforeAcquire fits t k w
  is_before_acquire h =
      let (b, r) = and_parts (ltb w k) (fits_here (λ e. outer_here t e.subject k e && fits_here (fits t e.subject w) (slice_get t w)) (slice_get t k)) h in
      let (e, at-k, q) = tested (λ e. outer_here t e.subject k e && fits_here (fits t e.subject w) (slice_get t w)) (slice_get t k) r in
      let (a, s) = and_parts (outer_here t e.subject k e) (fits_here (fits t e.subject w) (slice_get t w)) q in
      let (f, at-w, does) = tested (fits t e.subject w) (slice_get t w) s in
      record {
        before = ltb-true w k b;
        acquire = e;
        event = f;
        outer = (is_outer t e.subject k e at-k a).0;
        event_is = at-w;
        does = does;
      }

  pub as_before_acquire : BeforeAcquire fits t k w → before_acquire fits t k w ≡ true
  as_before_acquire h =
      and_from (ltb w k) (fits_here (λ e. outer_here t e.subject k e && fits_here (fits t e.subject w) (slice_get t w)) (slice_get t k)) (lt-ltb w k h.before)
      (rw (h.outer.is, h.event_is)
      (and_from (outer_here t h.acquire.subject k h.acquire) (fits t h.acquire.subject w h.event)
      (as_outer t h.acquire.subject k h.acquire h.outer.is h.outer refl) h.does))

-- in happens-before an outer acquire wants each earlier release that freed its lock
abbrev pub happens_before_test : Test
happens_before_test = either thread_test (some_in (before_acquire frees_here))

pub happens_before_decided : Decides HappensBeforeWants happens_before_test
happens_before_decided = record {
  wanted = λ t c w h. ⊎_elim (λ b. before_threads (threads_decided.wanted t c w b)) (wanted t c w)
      (or_cases (thread_test t c w) (some_in (before_acquire frees_here) t c w) h);
  passes = passes;
}
  where
    wanted : (t : List Event) (c : Positions) (w : ℕ) → some_in (before_acquire frees_here) t c w ≡ true → HappensBeforeWants t c w
    wanted t c w h =
        let (k, i, q) = some_inside (before_acquire frees_here) t c w h in
        let b = is_before_acquire frees_here t k w q in
        let (f, lock) = is_freeing t b.acquire.subject w b.event b.event_is b.does in
        release_before i b.before b.outer f (sym lock)

    passes : (t : List Event) (c : Positions) (w : ℕ) → HappensBeforeWants t c w → happens_before_test t c w ≡ true
    passes t c w (before_threads h) = or_left (thread_test t c w) (some_in (before_acquire frees_here) t c w) (threads_decided.passes t c w h)
    passes t c w (release_before {a} {e} {f} i lt p q same) = or_right (thread_test t c w) (some_in (before_acquire frees_here) t c w) (some_in_from (before_acquire frees_here) t c w a e p.is i (as_before_acquire frees_here t a w (record {
      before = lt;
      acquire = e;
      event = f;
      outer = p;
      event_is = q.is;
      does = as_freeing t e.subject w f q.is q (sym same);
    })))

-- in schedulable happens-before a read wants its last write too
abbrev pub schedulable_test : Test
schedulable_test = either happens_before_test (some_in read_test)

pub schedulable_decided : Decides SchedulableWants schedulable_test
schedulable_decided = record { wanted = wanted; passes = passes }
  where
    wanted : (t : List Event) (c : Positions) (w : ℕ) → either happens_before_test (some_in read_test) t c w ≡ true → SchedulableWants t c w
    wanted t c w h =
        ⊎_elim (λ b. as_before (happens_before_decided.wanted t c w b)) (λ b. let r = reads_decided.wanted t c w b in read_by_lem r.inside r.last_write)
        (or_cases (happens_before_test t c w) (some_in read_test t c w) h)

    passes : (t : List Event) (c : Positions) (w : ℕ) → SchedulableWants t c w → either happens_before_test (some_in read_test) t c w ≡ true
    passes t c w (as_before h) = or_left (happens_before_test t c w) (some_in read_test t c w) (happens_before_decided.passes t c w h)
    passes t c w (read_by_lem {k} i l) = or_right (happens_before_test t c w) (some_in read_test t c w)
        (reads_decided.passes t c w (record { read = k; inside = i; last_write = l }))

-- of two outer acquires of one lock the first, at a, wants its release
abbrev pub lock_test : Test
lock_test t c w = some_below (λ a. (c a && finds (release_of t a) w) && some_in (before_acquire outer_here) t c a) (length t)

-- the sync rule has the threads, the reads and the locks
abbrev pub sync_test : Test
sync_test = either thread_test (either (some_in read_test) lock_test)

pub sync_decided : Decides SyncWants sync_test
sync_decided = record {
  wanted = λ t c w h. ⊎_elim (λ b. of_threads (threads_decided.wanted t c w b)) (wanted t c w) (or_cases (thread_test t c w) (either (some_in read_test) lock_test t c w) h);
  passes = passes_all;
}
  where
    locks : (t : List Event) (c : Positions) (w : ℕ) → lock_test t c w ≡ true → SyncWants t c w
    locks t c w h =
        let (a, q) = some_found (λ a. (c a && finds (release_of t a) w) && some_in (before_acquire outer_here) t c a) (length t) h in
        let (here, later) = and_parts (c a && finds (release_of t a) w) (some_in (before_acquire outer_here) t c a) q in
        let (i, is) = and_parts (c a) (finds (release_of t a) w) here in
        let (b, j, s) = some_inside (before_acquire outer_here) t c a later in
        let r = is_before_acquire outer_here t b a s in
        let (first, lock) = is_outer t r.acquire.subject a r.event r.event_is r.does in
        earlier_release i j r.before first r.outer lock (((release_found t a r.event first.is first.is_acquire).0 w).0 (found (release_of t a) w is))

    wanted : (t : List Event) (c : Positions) (w : ℕ) → either (some_in read_test) lock_test t c w ≡ true → SyncWants t c w
    wanted t c w h =
        ⊎_elim (λ b. let r = reads_decided.wanted t c w b in of_read r.inside r.last_write) (locks t c w)
        (or_cases (some_in read_test t c w) (lock_test t c w) h)

    -- a test of reads and locks passes for the rule
    among : (t : List Event) (c : Positions) (w : ℕ) → either (some_in read_test) lock_test t c w ≡ true → sync_test t c w ≡ true
    among t c w = or_right (thread_test t c w) (either (some_in read_test) lock_test t c w)

    passes_all : (t : List Event) (c : Positions) (w : ℕ) → SyncWants t c w → sync_test t c w ≡ true
    passes_all t c w (of_threads h) = or_left (thread_test t c w) (either (some_in read_test) lock_test t c w) (threads_decided.passes t c w h)
    passes_all t c w (of_read {k} i l) = among t c w (or_left (some_in read_test t c w) (lock_test t c w)
        (reads_decided.passes t c w (record { read = k; inside = i; last_write = l })))
    passes_all t c w (earlier_release {a} {b} {e} {f} i j lt p q same rel) =
        among t c w (or_right (some_in read_test t c w) (lock_test t c w)
        (some_from (λ a. (c a && finds (release_of t a) w) && some_in (before_acquire outer_here) t c a) (length t) a (at_inside t a e p.is)
        (and_from (c a && finds (release_of t a) w) (some_in (before_acquire outer_here) t c a)
        (and_from (c a) (finds (release_of t a) w) i (found_from (release_of t a) w (((release_found t a e p.is p.is_acquire).0 w).1 rel)))
        (some_in_from (before_acquire outer_here) t c a b f q.is j (as_before_acquire outer_here t b a (record {
          before = lt;
          acquire = f;
          event = e;
          outer = q;
          event_is = p.is;
          does = as_outer t f.subject a e p.is p same;
        }))))))
