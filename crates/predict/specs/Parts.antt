-- The parts of the rules.
use Rattle.std.specs.Prelude.{◌≡◌, ℕ, suc, ◌-◌, ◌<◌, ◌≤◌, Bool, true, false, ◌&&◌, cond, List, length, Some, None, Option, ◌==◌, slice_index, slice_index_or}
use Rattle.std.specs.List.{slice_get}
use Rattle.trace.specs.declared.event.Event.{Event}
use Rattle.trace.specs.declared.kind.Kind.{Kind}
use Rattle.trace.specs.declared.kind.Kind.TheVariants.{Read, Write, Acquire, Release, Spawn, Join}
use Rattle.trace.specs.Limits.{locks}
use Rattle.trace.specs.Lookups.{fits_here, of_thread, spawns, or_found, from_event, freeing}
use Rattle.trace.specs.Orders.{ReleaseBefore}
use Rattle.trace.specs.Traces.{Admits, deeper, Outer, LastWrite, ReleaseOf}
use Rattle.trace.specs.Cuts.{Positions, In, Closed}
use Rattle.predict.specs.Held.{below, held}

-- whether a kind is Acquire
abbrev pub acquiring : Kind → Bool
acquiring Read = false
acquiring Write = false
acquiring Acquire = true
acquiring Release = false
acquiring Spawn = false
acquiring Join = false

-- an acquire of the lock l
abbrev pub acquires : ℕ → Event → Bool
acquires l e = acquiring e.kind && e.subject == l

-- whether t has an event at k that fits and lies below the bound of its thread
abbrev pub fits_inside : (Event → Bool) → List Event → List ℕ → ℕ → Bool
fits_inside fits t bounds k = fits_here (λ e. fits e && below bounds k e) (slice_get t k)

-- where the thread of an outer acquire a, which is once in the lock of a after a, next frees it; what is found so for another event means nothing
abbrev pub outer_release_of : List Event → ℕ → Option ℕ
outer_release_of t a = from_event (λ e. freeing e.thread e.subject t 1 (suc a) (length t - suc a)) (slice_get t a)

-- w is the last write of a read of the cut
pub record ReadWants (t : List Event) (c : Positions) (w : ℕ) : Type 0 where
  pub read : ℕ
  pub inside : In read c
  pub last_write : LastWrite t read w

-- a is an outer acquire of the lock l in the cut
pub record AcquireIn (t : List Event) (c : Positions) (l a : ℕ) : Type 0 where
  pub event : Event
  pub inside : In a c
  pub outer : Outer t a event
  pub its_lock : event.subject ≡ l

-- of two outer acquires of a lock in the cut the first wants its release
pub record LockWants (t : List Event) (c : Positions) (w : ℕ) : Type 0 where
  pub lock : ℕ
  pub first : ℕ
  pub second : ℕ
  pub first_in : AcquireIn t c lock first
  pub second_in : AcquireIn t c lock second
  pub order : first < second
  pub release : ReleaseOf t first w

-- of two outer acquires of the lock l in the cut, both before position n, the first has its release in the cut, if it has one
abbrev pub SettledBefore : List Event → Positions → ℕ → ℕ → Type 0
SettledBefore t c l n = (a b w : ℕ) → AcquireIn t c l a → AcquireIn t c l b → a < b → b < n → ReleaseOf t a w → In w c

-- a position for each lock, before which its acquires tell enough: where each lock is settled before its position, the cut wants no release
pub record Enough (t : List Event) (bounds ends : List ℕ) : Type 0 where
  pub whole : length ends ≡ locks
  pub within : (l : ℕ) → slice_index ends l ≤ length t
  pub enough : Admits t → ((l : ℕ) → SettledBefore t (held t bounds) l (slice_index ends l)) → Closed LockWants t (held t bounds)

-- how deep a lock is held after an event, whoever holds it
abbrev pub lock_depth_with : ℕ → ℕ → Event → ℕ
lock_depth_with l n e = cond (e.subject == l) (deeper e.kind n) n

-- after an event, if there is one
abbrev pub lock_depth_past : ℕ → ℕ → Option Event → ℕ
lock_depth_past l n None = n
lock_depth_past l n (Some e) = lock_depth_with l n e

-- a cut wants a release that freed its lock, where it has a later outer acquire of the lock
pub record ReleaseWants (t : List Event) (c : Positions) (w : ℕ) : Type 0 where
  pub acquire : ℕ
  pub inside : In acquire c
  pub before : ReleaseBefore t w acquire

-- whether a kind is Join
abbrev pub joining : Kind → Bool
joining Read = false
joining Write = false
joining Acquire = false
joining Release = false
joining Spawn = false
joining Join = true

-- what a join wants of a spawn and a latest event of the thread that it awaits
abbrev pub awaited_of : Kind → Option ℕ → Option ℕ → Option ℕ
awaited_of kind spawn latest = cond (joining kind) (or_found spawn latest) None

-- what an event wants, where the tables have of each thread a spawn and the latest event, or none
abbrev pub wanted_of : List (Option ℕ) → List (Option ℕ) → Event → Option ℕ
wanted_of spawns latest e =
    or_found (slice_index_or spawns e.thread None)
    (awaited_of e.kind (slice_index_or spawns e.subject None) (slice_index_or latest e.subject None))

-- what is noted of the thread p where the event e at k is noted, and this was noted before: that it spawns p, and that it is of p
abbrev pub spawn_noted : ℕ → ℕ → Event → Option ℕ → Option ℕ
spawn_noted p k e before = cond (spawns p e) (Some k) before

abbrev pub event_noted : ℕ → ℕ → Event → Option ℕ → Option ℕ
event_noted p k e before = cond (of_thread p e) (Some k) before
