-- The previous event, the last write and the release of an acquire, as functions that compute, and what they should find; and likewise the
-- previous events of some events, and the listing of a set.
use Rattle.std.specs.Prelude.{◌≡◌, ℕ, zero, suc, Bool, true, false, cond, ◌-◌, ◌<◌, ◌&&◌, ◌↔◌, List, [], ◌∷◌, length, take, Some, None, Option, ◌==◌}
use mathlib.Core.List.{Memᴰ}
use Rattle.std.specs.List.{slice_get}
use Rattle.trace.specs.declared.event.Event.{Event}
use Rattle.trace.specs.declared.kind.Kind.{Kind}
use Rattle.trace.specs.declared.kind.Kind.TheVariants.{Read, Write, Acquire, Release, Spawn, Join}
use Rattle.trace.specs.Traces.{At, depth_with, depth, Previous, LastWrite, ReleaseOf}
use Rattle.trace.specs.Reorderings.{Ascending}
use Rattle.trace.specs.Cuts.{Positions, In, SeedsOf, listed}

-- whether there is an event, and it fits
abbrev pub fits_here : (Event → Bool) → Option Event → Bool
fits_here fits None = false
fits_here fits (Some e) = fits e

-- the latest position below k whose event fits
abbrev pub latest : (Event → Bool) → List Event → ℕ → Option ℕ
latest fits t zero = None
latest fits t (suc k) = cond (fits_here fits (slice_get t k)) (Some k) (latest fits t k)

-- whether a kind is Read
abbrev pub reading : Kind → Bool
reading Read = true
reading Write = false
reading Acquire = false
reading Release = false
reading Spawn = false
reading Join = false

-- whether a kind is Write
abbrev pub writing : Kind → Bool
writing Read = false
writing Write = true
writing Acquire = false
writing Release = false
writing Spawn = false
writing Join = false

-- whether a kind is Spawn
abbrev pub spawning : Kind → Bool
spawning Read = false
spawning Write = false
spawning Acquire = false
spawning Release = false
spawning Spawn = true
spawning Join = false

-- an event of the thread p
abbrev pub of_thread : ℕ → Event → Bool
of_thread p e = e.thread == p

-- a write to the variable x
abbrev pub writes : ℕ → Event → Bool
writes x e = writing e.kind && e.subject == x

-- a spawn of the thread p
abbrev pub spawns : ℕ → Event → Bool
spawns p e = spawning e.kind && e.subject == p

-- a position, and where there is none another
abbrev pub or_found : Option ℕ → Option ℕ → Option ℕ
or_found None other = other
or_found (Some k) other = Some k

-- a lookup that starts from an event, if there is one
abbrev pub from_event : (Event → Option ℕ) → Option Event → Option ℕ
from_event find None = None
from_event find (Some e) = find e

-- the last position before k where the thread of k has an event, and where there is none the last where its thread is spawned
abbrev pub previous : List Event → ℕ → Option ℕ
previous t k = from_event (λ e. or_found (latest (of_thread e.thread) t k) (latest (spawns e.thread) t k)) (slice_get t k)

-- the list ks after a position, if there is one
abbrev pub after_some : Option ℕ → List ℕ → List ℕ
after_some None ks = ks
after_some (Some k) ks = k ∷ ks

-- the previous events of some events, as far as there are any
abbrev pub previous_events : List Event → List ℕ → List ℕ
previous_events t [] = []
previous_events t (e ∷ es) = after_some (previous t e) (previous_events t es)

-- the last position before k where the variable of k is written, if k is a read
abbrev pub last_write : List Event → ℕ → Option ℕ
last_write t k = from_event (λ e. cond (reading e.kind) (latest (writes e.subject) t k) None) (slice_get t k)

-- how deep a thread is in a lock after an event, if there is one
abbrev pub depth_past : ℕ → ℕ → ℕ → Option Event → ℕ
depth_past thread lock n None = n
depth_past thread lock n (Some e) = depth_with thread lock n e

-- the earliest of the n positions from k on after which the thread is out of the lock, where it is so deep in it before k
abbrev pub freeing : ℕ → ℕ → List Event → ℕ → ℕ → ℕ → Option ℕ
freeing thread lock t depth k zero = None
freeing thread lock t depth k (suc n) =
    let next = depth_past thread lock depth (slice_get t k) in
    cond (next == 0) (Some k) (freeing thread lock t next (suc k) n)

-- where the thread of an acquire a next frees the lock of a; what is found for another event means nothing
abbrev pub release_of : List Event → ℕ → Option ℕ
release_of t a = from_event (λ e. freeing e.thread e.subject t (depth e.thread e.subject (take (suc a) t)) (suc a) (length t - suc a)) (slice_get t a)

-- a lookup finds the position that stands in a relation, and finds none just if there is none
abbrev pub Finds : Option ℕ → (ℕ → Type 0) → Type 0
Finds o R = ((p : ℕ) → (o ≡ Some p) ↔ R p) × ((o ≡ None) ↔ ((p : ℕ) → R p → ⊥))

-- the lookup of previous events is right at each position
abbrev pub PreviousFound : Type 0
PreviousFound = (t : List Event) (k : ℕ) → Finds (previous t k) (Previous t k)

-- the lookup of last writes is right at each position
abbrev pub LastWriteFound : Type 0
LastWriteFound = (t : List Event) (k : ℕ) → Finds (last_write t k) (LastWrite t k)

-- the lookup of releases is right at each acquire
abbrev pub ReleaseFound : Type 0
ReleaseFound = (t : List Event) (a : ℕ) (e : Event) → At t a e → e.kind ≡ Acquire → Finds (release_of t a) (ReleaseOf t a)

-- the list that is computed of the previous events of some events has just these
abbrev pub SeedsFound : Type 0
SeedsFound = (t : List Event) (es : List ℕ) → SeedsOf t es (previous_events t es)

-- the listing of a set below n is ascending, and has just the positions of the set that are below n
abbrev pub ListingRight : Type 0
ListingRight = (c : Positions) (n : ℕ) → Ascending (listed c n) × ((k : ℕ) → Memᴰ k (listed c n) ↔ (In k c × (k < n)))
