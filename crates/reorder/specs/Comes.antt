-- When a position may come next after a list of positions that is a sync-preserving correct reordering.
use Rattle.std.specs.Prelude.{◌≡◌, ℕ, ◌<◌, true, ◌↔◌, List, [], ◌∷◌, ◌++◌, Option, Some, IsSome}
use mathlib.Core.List.{Memᴰ}
use Rattle.trace.specs.declared.event.Event.{Event}
use Rattle.trace.specs.declared.kind.Kind.TheVariants.{Read}
use Rattle.trace.specs.declared.check.TraceCheck.{TraceCheck}
use Rattle.trace.specs.Traces.{At, Allowed, Outer, AwaitedSpawn, AwaitedEvent, LastWrite, standing_after}
use Rattle.std.specs.List.{slice_get}
use Rattle.trace.specs.Lookups.{fits_here, spawns, of_thread}
use Rattle.trace.specs.Reorderings.{picked, LatestWrite, Correct, SyncPreserving, Enabled}
use Rattle.trace.specs.Checks.{Tells}

-- a sync-preserving correct reordering
pub record Reorders (t : List Event) (σ : List ℕ) : Type 0 where
  pub correct : Correct t σ
  pub sync : SyncPreserving t σ

-- if a is an outer acquire of the lock l, it stands before k
abbrev pub AcquireBefore : List Event → ℕ → ℕ → ℕ → Type 0
AcquireBefore t k l a = (f : Event) → Outer t a f → f.subject ≡ l → a < k

-- the outer acquires of the lock l among the positions xs stand before k
abbrev pub AcquiredBefore : List Event → List ℕ → ℕ → ℕ → Type 0
AcquiredBefore t xs k l = (a : ℕ) → Memᴰ a xs → AcquireBefore t k l a

-- the event e at k agrees with the trace after the positions xs: as a read it has its last write as the latest write to its variable there, as an
-- outer acquire it comes after the earlier outer acquires of its lock, and as a join after the spawn and the events of the thread that it awaits
pub record Agrees (t : List Event) (xs : List ℕ) (k : ℕ) (e : Event) : Type 0 where
  pub reads : e.kind ≡ Read → (w : ℕ) → LatestWrite t xs e.subject w ↔ LastWrite t k w
  pub acquires : Outer t k e → AcquiredBefore t xs k e.subject
  pub awaited_spawns : (s : ℕ) → AwaitedSpawn t s k → Memᴰ s xs
  pub awaited_events : (d : ℕ) → AwaitedEvent t d k → Memᴰ d xs

-- each spawn of the thread p that stands before k is among the positions xs, and each event of p that does
abbrev pub HasSpawns : List Event → List ℕ → ℕ → ℕ → Type 0
HasSpawns t xs k p = (m : ℕ) → m < k → fits_here (spawns p) (slice_get t m) ≡ true → Memᴰ m xs

abbrev pub HasEvents : List Event → List ℕ → ℕ → ℕ → Type 0
HasEvents t xs k p = (m : ℕ) → m < k → fits_here (of_thread p) (slice_get t m) ≡ true → Memᴰ m xs

-- k may come next after xs: it has an event, which is enabled, agrees with the trace and passes the trace check
pub record Comes (t : List Event) (xs : List ℕ) (k : ℕ) : Type 0 where
  pub event : Event
  pub is : At t k event
  pub enabled : Enabled t xs k
  pub agrees : Agrees t xs k event
  pub allowed : Allowed (standing_after (picked t xs)) event

-- the answer is a table just if k may come next after xs, and the table then has the holders after it
pub record Answered (t : List Event) (xs : List ℕ) (k : ℕ) (r : Option TraceCheck) : Type 0 where
  pub right : IsSome r ↔ Comes t xs k
  pub told : (table : TraceCheck) → r ≡ Some table → Tells table (picked t (xs ++ (k ∷ [])))
