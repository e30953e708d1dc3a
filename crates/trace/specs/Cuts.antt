-- Cuts of a trace, rules that say which events a cut wants, and closures.
use Rattle.std.specs.Prelude.{◌≡◌, ℕ, zero, suc, ◌<◌, Bool, true, false, List, [], ◌∷◌, ◌++◌, length}
use mathlib.Core.List.{Memᴰ}
use Rattle.trace.specs.declared.event.Event.{Event}
use Rattle.trace.specs.Traces.{Admits, Outer, Frees, EarlierInThread, SpawnOf, AwaitedSpawn, LastAwaited, Previous, LastWrite, ReleaseOf}

-- a set of positions
abbrev pub Positions : Type 0
Positions = ℕ → Bool

-- position k is in c
abbrev pub In : ℕ → Positions → Type 0
In k c = c k ≡ true

-- each position of c is in d
abbrev pub Inside : Positions → Positions → Type 0
Inside c d = (k : ℕ) → In k c → In k d

-- a cut has positions of the trace, and with each of them all earlier ones of its thread
pub record Cut (t : List Event) (c : Positions) : Type 0 where
  pub in_trace : (k : ℕ) → In k c → k < length t
  pub first_events : (d k : ℕ) → EarlierInThread t d k → In k c → In d c

-- a rule: which events of a trace a cut wants
abbrev pub Wants : Type 1
Wants = List Event → Positions → ℕ → Type 0

-- the laws of a rule, in traces that the trace check admits: what a cut wants comes earlier than something that it has, a greater cut wants no
-- less, and a cut wants the same in a longer trace that the trace check admits
pub record Laws (wants : Wants) : Type 0 where
  pub earlier : (t : List Event) (c : Positions) (w : ℕ) → Admits t → Cut t c → wants t c w → (k : ℕ) × In k c × (w < k)
  pub more : (t : List Event) (c d : Positions) (w : ℕ) → Admits t → Cut t c → Cut t d → Inside c d → wants t c w → wants t d w
  pub lasting : (t u : List Event) (c : Positions) (w : ℕ) → Admits (t ++ u) → Cut t c
      → (wants (t ++ u) c w → wants t c w) × (wants t c w → wants (t ++ u) c w)

-- a cut is closed if nothing that it wants is missing from it
abbrev pub Closed : Wants → List Event → Positions → Type 0
Closed wants t c = (w : ℕ) → wants t c w → In w c

-- the closure of the seeds: the least closed cut that holds them. A cut holds positions of the trace alone, so seeds have no closure if one of them
-- is past the trace
pub record Closure (wants : Wants) (t : List Event) (seeds : List ℕ) (c : Positions) : Type 0 where
  pub cut : Cut t c
  pub closed : Closed wants t c
  pub seeded : (s : ℕ) → Memᴰ s seeds → In s c
  pub least : (d : Positions) → Cut t d → Closed wants t d → ((s : ℕ) → Memᴰ s seeds → In s d) → Inside c d

-- the events that the seeds bring in: each seed, each event that a thread has before one of these, and each event that a cut of these wants
pub data Reached (wants : Wants) (t : List Event) (seeds : List ℕ) : ℕ → Type 0 where
  seed : {s : ℕ} → Memᴰ s seeds → Reached wants t seeds s
  thread : {d k : ℕ} → EarlierInThread t d k → Reached wants t seeds k → Reached wants t seeds d
  wanted : {w : ℕ} (c : Positions) → Cut t c → ((k : ℕ) → In k c → Reached wants t seeds k) → wants t c w → Reached wants t seeds w

-- the seeds reach each event of c; the loop that computes a closure gives this
abbrev pub AllReached : Wants → List Event → List ℕ → Positions → Type 0
AllReached wants t ss c = (k : ℕ) → In k c → Reached wants t ss k

-- what every rule wants: an event the spawn of its thread, and a join the spawn and the last event of the thread that it awaits
pub data ThreadWants (t : List Event) (c : Positions) (w : ℕ) : Type 0 where
  spawn : {k : ℕ} → In k c → SpawnOf t w k → ThreadWants t c w
  awaited_spawn : {k : ℕ} → In k c → AwaitedSpawn t w k → ThreadWants t c w
  awaited_last : {k : ℕ} → In k c → LastAwaited t w k → ThreadWants t c w

-- the sync rule: that, and a read wants its last write, and of two outer acquires of one lock the first wants its release
pub data SyncWants (t : List Event) (c : Positions) (w : ℕ) : Type 0 where
  of_threads : ThreadWants t c w → SyncWants t c w
  last_write : {k : ℕ} → In k c → LastWrite t k w → SyncWants t c w
  earlier_release : {a b : ℕ} {e f : Event} → In a c → In b c → a < b → Outer t a e → Outer t b f → e.subject ≡ f.subject
      → ReleaseOf t a w → SyncWants t c w

-- the rule of happens-before: what every rule wants, and an outer acquire wants each earlier release that freed its lock
pub data HappensBeforeWants (t : List Event) (c : Positions) (w : ℕ) : Type 0 where
  of_threads : ThreadWants t c w → HappensBeforeWants t c w
  release_before : {a : ℕ} {e f : Event} → In a c → w < a → Outer t a e → Frees t w f → e.subject ≡ f.subject → HappensBeforeWants t c w

-- the rule of schedulable happens-before: the same, and a read wants its last write
pub data SchedulableWants (t : List Event) (c : Positions) (w : ℕ) : Type 0 where
  as_before : HappensBeforeWants t c w → SchedulableWants t c w
  last_write : {k : ℕ} → In k c → LastWrite t k w → SchedulableWants t c w

-- ss are the previous events of the events es, as far as there are any
pub record SeedsOf (t : List Event) (es ss : List ℕ) : Type 0 where
  pub sound : (d : ℕ) → Memᴰ d ss → (e : ℕ) × Memᴰ e es × Previous t e d
  pub complete : (e d : ℕ) → Memᴰ e es → Previous t e d → Memᴰ d ss

-- the list ks, with k at its end where a test passes
abbrev keep : Bool → ℕ → List ℕ → List ℕ
keep true k ks = ks ++ (k ∷ [])
keep false k ks = ks

-- the positions below n that are in c, ascending
abbrev pub listed : Positions → ℕ → List ℕ
listed c zero = []
listed c (suc n) = keep (c n) n (listed c n)
