-- The closures under the rules of happens-before and of schedulable happens-before are the events before the seeds in those orders.
use Rattle.std.proofs.Common.{◌≡◌, ℕ, ◌<◌, ◌↔◌, List, [], ◌∷◌, length, sym, refl, ap, ◌∙◌, subst, ⊎_elim, arith}
use Rattle.std.proofs.lemmas.Bool.{cases_eq}
use mathlib.Core.Logic.Iff
use mathlib.Core.List.Memᴰ
use mathlib.Core.List.{Memᴰ}
use Rattle.trace.specs.declared.event.Event.{Event}
use Rattle.trace.specs.Traces.{EarlierInThread, AwaitedEvent, LastAwaited}
use Rattle.trace.specs.Cuts.{Positions, In, Cut, Wants, Closed, Reached, HappensBeforeWants, SchedulableWants}
use Rattle.trace.specs.Cuts.Reached.{seed, thread, wanted}
use Rattle.trace.specs.Cuts.HappensBeforeWants.{of_threads, release_before}
use Rattle.trace.specs.Cuts.ThreadWants.{spawn, awaited_spawn, awaited_last}
use Rattle.trace.specs.Cuts.SchedulableWants.{as_before, last_write}
use Rattle.trace.specs.Orders.{ReleaseBefore, HappensBefore, SchedulableHappensBefore}
use Rattle.trace.specs.Orders.HappensBefore.{same, in_thread, spawned, spawn_awaited, event_awaited, released, chain}
use Rattle.trace.specs.Orders.SchedulableHappensBefore.{same as same', in_thread as in_thread', spawned as spawned', spawn_awaited as spawn_awaited', event_awaited as event_awaited', released as released', read_from, chain as chain'}
use Rattle.trace.specs.OrderTheorems.{BeforeOne, HappensBeforeSeeds, SchedulableBeforeSeeds, HappensBeforeSeed, SchedulableBeforeSeed}
use Rattle.trace.proofs.Events.{at_some, at_same}
use Rattle.trace.proofs.Lookups.{last_awaited_from}

-- what the seeds reach is related to one of them, if threads and wants are related, and the relation is reflexive and transitive
module _ (wants : Wants) (t : List Event) (R : ℕ → ℕ → Type 0)
    (self : (k : ℕ) → k < length t → R k k)
    (threads : (d k : ℕ) → EarlierInThread t d k → R d k)
    (join : (i j k : ℕ) → R i j → R j k → R i k)
    (wanted_by : (c : Positions) (w : ℕ) → wants t c w → (k : ℕ) × In k c × R w k) where
  reached_related : (ss : List ℕ) → ((s : ℕ) → Memᴰ s ss → s < length t) → (p : ℕ) → Reached wants t ss p → BeforeOne R ss p
  reached_related ss inside s (seed m) = (s, m, self s (inside s m))
  reached_related ss inside d (thread {k = k} h r) = let b = reached_related ss inside k r in (b.0, b.1, join d k b.0 (threads d k h) b.2)
  reached_related ss inside w (wanted c cut rs h) =
      let n = wanted_by c w h in
      let b = reached_related ss inside n.0 (rs n.0 n.1) in
      (b.0, b.1, join w n.0 b.0 n.2 b.2)

-- a cut that has the last event that a join awaits has all of them
pub awaited_in : (t : List Event) (c : Positions) → Cut t c → (k : ℕ) → In k c → ((l : ℕ) → LastAwaited t l k → In l c) → (d : ℕ) → AwaitedEvent t d k → In d c
awaited_in t c cut k h has d a =
    let (l, last, b) = last_awaited_from t d k a in
    let one : a.join ≡ last.awaited.join = at_same t k a.join last.awaited.join a.join_is last.awaited.join_is in
    ⊎_elim (λ q. ap c q ∙ has l last) (λ n. cut.first_events d l (record {
      before = omega arith;
      first = a.event;
      second = last.awaited.event;
      first_is = a.event_is;
      second_is = last.awaited.event_is;
      same_thread = a.names ∙ ap (λ (x : Event). x.subject) one ∙ sym last.awaited.names;
    }) (has l last)) (cases_eq d l)

-- a closed cut holds with an event all that is before it in the order
module _ (t : List Event) (c : Positions) (cut : Cut t c) where
  released_wanted : (w k : ℕ) → ReleaseBefore t w k → In k c → HappensBeforeWants t c w
  released_wanted w k h i = release_before i h.before h.acquires h.frees h.same_lock

  -- happens-before
  before_in : Closed HappensBeforeWants t c → (p k : ℕ) → HappensBefore t p k → In k c → In p c
  before_in closed p k (same e) i = i
  before_in closed p k (in_thread h) i = cut.first_events p k h i
  before_in closed p k (spawned h) i = closed p (of_threads (spawn i h))
  before_in closed p k (spawn_awaited h) i = closed p (of_threads (awaited_spawn i h))
  before_in closed p k (event_awaited h) i = awaited_in t c cut k i (λ l a. closed l (of_threads (awaited_last i a))) p h
  before_in closed p k (released h) i = closed p (released_wanted p k h i)
  before_in closed p k (chain {j = j} g h) i = before_in closed p j g (before_in closed j k h i)

  -- schedulable happens-before
  schedulable_in : Closed SchedulableWants t c → (p k : ℕ) → SchedulableHappensBefore t p k → In k c → In p c
  schedulable_in closed p k (same' e) i = i
  schedulable_in closed p k (in_thread' h) i = cut.first_events p k h i
  schedulable_in closed p k (spawned' h) i = closed p (as_before (of_threads (spawn i h)))
  schedulable_in closed p k (spawn_awaited' h) i = closed p (as_before (of_threads (awaited_spawn i h)))
  schedulable_in closed p k (event_awaited' h) i = awaited_in t c cut k i (λ l a. closed l (as_before (of_threads (awaited_last i a)))) p h
  schedulable_in closed p k (released' h) i = closed p (as_before (released_wanted p k h i))
  schedulable_in closed p k (read_from h) i = closed p (last_write i h)
  schedulable_in closed p k (chain' {j = j} g h) i = schedulable_in closed p j g (schedulable_in closed j k h i)

-- what a cut wants is before one of its events
before_wanted : (t : List Event) (c : Positions) (w : ℕ) → HappensBeforeWants t c w → (k : ℕ) × In k c × HappensBefore t w k
before_wanted t c w (of_threads (spawn {k} i h)) = (k, i, spawned h)
before_wanted t c w (of_threads (awaited_spawn {k} i h)) = (k, i, spawn_awaited h)
before_wanted t c w (of_threads (awaited_last {k} i h)) = (k, i, event_awaited h.awaited)
before_wanted t c w (release_before {a} {e} {f} i lt p q on) = (a, i, released (record { before = lt; acquire = e; release = f; acquires = p; frees = q; same_lock = on }))

schedulable_wanted : (t : List Event) (c : Positions) (w : ℕ) → SchedulableWants t c w → (k : ℕ) × In k c × SchedulableHappensBefore t w k
schedulable_wanted t c w (as_before (of_threads (spawn {k} i h))) = (k, i, spawned' h)
schedulable_wanted t c w (as_before (of_threads (awaited_spawn {k} i h))) = (k, i, spawn_awaited' h)
schedulable_wanted t c w (as_before (of_threads (awaited_last {k} i h))) = (k, i, event_awaited' h.awaited)
schedulable_wanted t c w (as_before (release_before {a} {e} {f} i lt p q on)) =
    (a, i, released' (record { before = lt; acquire = e; release = f; acquires = p; frees = q; same_lock = on }))
schedulable_wanted t c w (last_write {k} i lw) = (k, i, read_from lw)

-- so a closure of reached events is what stands at or before its seeds in the order
pub happens_before_seeds : HappensBeforeSeeds
happens_before_seeds t ss c h reached p = (
  λ i. reached_related HappensBeforeWants t (HappensBefore t) (λ k n. same (at_some t k n).1) (λ d k e. in_thread e) (λ i j k a b. chain a b)
      (before_wanted t) ss (λ s m. h.cut.in_trace s (h.seeded s m)) p (reached p i),
  λ b. before_in t c h.cut h.closed p b.0 b.2 (h.seeded b.0 b.1),
)

-- the same for schedulable happens-before
pub schedulable_before_seeds : SchedulableBeforeSeeds
schedulable_before_seeds t ss c h reached p = (
  λ i. reached_related SchedulableWants t (SchedulableHappensBefore t) (λ k n. same' (at_some t k n).1) (λ d k e. in_thread' e)
      (λ i j k a b. chain' a b) (schedulable_wanted t) ss (λ s m. h.cut.in_trace s (h.seeded s m)) p (reached p i),
  λ b. schedulable_in t c h.cut h.closed p b.0 b.2 (h.seeded b.0 b.1),
)

-- at one seed
before_single : (R : ℕ → ℕ → Type 0) (q p : ℕ) → BeforeOne R (q ∷ []) p ↔ R p q
before_single R q p = (λ b. subst (λ (s : ℕ). R p s) (Memᴰ.eq_of_singleton b.1) b.2, λ r. (q, Memᴰ.head refl, r))

-- so with one seed q the closure has just what happens before q
pub happens_before_seed : HappensBeforeSeed
happens_before_seed t q c h reached p = Iff.trans (happens_before_seeds t (q ∷ []) c h reached p) (before_single (HappensBefore t) q p)

-- and what is before q in schedulable happens-before
pub schedulable_before_seed : SchedulableBeforeSeed
schedulable_before_seed t q c h reached p = Iff.trans (schedulable_before_seeds t (q ∷ []) c h reached p)
    (before_single (SchedulableHappensBefore t) q p)
