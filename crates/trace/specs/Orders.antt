-- Happens-before and schedulable happens-before, as relations on the positions of a trace.
use Rattle.std.specs.Prelude.{◌≡◌, ℕ, ◌<◌, List}
use Rattle.trace.specs.declared.event.Event.{Event}
use Rattle.trace.specs.Traces.{At, Outer, Frees, EarlierInThread, SpawnOf, AwaitedSpawn, AwaitedEvent, LastWrite}

-- w is a release that frees its lock, and a a later outer acquire of it
pub record ReleaseBefore (t : List Event) (w a : ℕ) : Type 0 where
  pub before : w < a
  pub acquire : Event
  pub release : Event
  pub acquires : Outer t a acquire
  pub frees : Frees t w release
  pub same_lock : acquire.subject ≡ release.subject

-- the least reflexive and transitive relation with thread order, with the spawn of a thread before its events, with the spawn and the events of a
-- thread before the joins that await it, and with each release that frees a lock before the later outer acquires of it
pub data HappensBefore (t : List Event) : ℕ → ℕ → Type 0 where
  same : {k : ℕ} {e : Event} → At t k e → HappensBefore t k k
  in_thread : {d k : ℕ} → EarlierInThread t d k → HappensBefore t d k
  spawned : {s k : ℕ} → SpawnOf t s k → HappensBefore t s k
  spawn_awaited : {s k : ℕ} → AwaitedSpawn t s k → HappensBefore t s k
  event_awaited : {d k : ℕ} → AwaitedEvent t d k → HappensBefore t d k
  released : {w a : ℕ} → ReleaseBefore t w a → HappensBefore t w a
  chain : {i j k : ℕ} → HappensBefore t i j → HappensBefore t j k → HappensBefore t i k

-- the same, with the last write of each read before the read
pub data SchedulableHappensBefore (t : List Event) : ℕ → ℕ → Type 0 where
  same : {k : ℕ} {e : Event} → At t k e → SchedulableHappensBefore t k k
  in_thread : {d k : ℕ} → EarlierInThread t d k → SchedulableHappensBefore t d k
  spawned : {s k : ℕ} → SpawnOf t s k → SchedulableHappensBefore t s k
  spawn_awaited : {s k : ℕ} → AwaitedSpawn t s k → SchedulableHappensBefore t s k
  event_awaited : {d k : ℕ} → AwaitedEvent t d k → SchedulableHappensBefore t d k
  released : {w a : ℕ} → ReleaseBefore t w a → SchedulableHappensBefore t w a
  read_from : {w k : ℕ} → LastWrite t k w → SchedulableHappensBefore t w k
  chain : {i j k : ℕ} → SchedulableHappensBefore t i j → SchedulableHappensBefore t j k → SchedulableHappensBefore t i k
