-- Correct reorderings of a trace, as lists of its positions.
use Rattle.std.specs.Prelude.{◌≡◌, ℕ, ◌<◌, List, [], ◌∷◌, ◌++◌, Some, None, Option, ◌≢◌}
use mathlib.Core.List.{Memᴰ}
use Rattle.std.specs.List.{slice_get}
use Rattle.trace.specs.declared.event.Event.{Event}
use Rattle.trace.specs.declared.kind.Kind.TheVariants.{Read, Write}
use Rattle.trace.specs.Traces.{At, Admits, Outer, EarlierInThread, SpawnOf, AwaitedSpawn, AwaitedEvent, LastWrite}

-- the list es, with an event before it if there is one
abbrev pub take_in : Option Event → List Event → List Event
take_in None es = es
take_in (Some e) es = e ∷ es

-- the events at the positions of a list, in its order
abbrev pub picked : List Event → List ℕ → List Event
picked t [] = []
picked t (k ∷ ks) = take_in (slice_get t k) (picked t ks)

-- the positions stand in trace order, none twice
abbrev pub Ascending : List ℕ → Type 0
Ascending [] = Unit {0}
Ascending (x ∷ xs) = ((m : ℕ) → Memᴰ m xs → x < m) × Ascending xs

-- w is the latest write to the variable subject among the positions xs
pub record LatestWrite (t : List Event) (xs : List ℕ) (subject w : ℕ) : Type 0 where
  pub front : List ℕ
  pub back : List ℕ
  pub stands : xs ≡ front ++ (w ∷ back)
  pub write : Event
  pub write_is : At t w write
  pub is_write : write.kind ≡ Write
  pub same_variable : write.subject ≡ subject
  pub none_later : (m : ℕ) (e : Event) → Memᴰ m back → At t m e → e.kind ≡ Write → e.subject ≢ subject

-- a correct reordering: positions of the trace, each once and after the earlier events of its thread and its spawn, a join after the spawn and the
-- events of the thread that it awaits, such that the trace check admits their events and each read has its last write as in the trace
pub record Correct (t : List Event) (σ : List ℕ) : Type 0 where
  pub in_trace : (k : ℕ) → Memᴰ k σ → (e : Event) × At t k e
  pub once : (xs ys : List ℕ) (k : ℕ) → σ ≡ xs ++ (k ∷ ys) → Memᴰ k xs → ⊥
  pub thread_prefix : (xs ys : List ℕ) (d k : ℕ) → σ ≡ xs ++ (k ∷ ys) → EarlierInThread t d k → Memᴰ d xs
  pub spawns : (xs ys : List ℕ) (s k : ℕ) → σ ≡ xs ++ (k ∷ ys) → SpawnOf t s k → Memᴰ s xs
  pub awaited_spawns : (xs ys : List ℕ) (s k : ℕ) → σ ≡ xs ++ (k ∷ ys) → AwaitedSpawn t s k → Memᴰ s xs
  pub awaited_events : (xs ys : List ℕ) (d k : ℕ) → σ ≡ xs ++ (k ∷ ys) → AwaitedEvent t d k → Memᴰ d xs
  pub admitted : Admits (picked t σ)
  pub reads : (xs ys : List ℕ) (k : ℕ) (e : Event) → σ ≡ xs ++ (k ∷ ys) → At t k e → e.kind ≡ Read → (w : ℕ)
      → (LatestWrite t xs e.subject w → LastWrite t k w) × (LastWrite t k w → LatestWrite t xs e.subject w)

-- the outer acquires of each lock stand in the order in which they stand in the trace
pub record SyncPreserving (t : List Event) (σ : List ℕ) : Type 0 where
  pub in_order : (xs ys : List ℕ) (a b : ℕ) (e f : Event) → σ ≡ xs ++ (b ∷ ys) → Memᴰ a xs → Outer t a e → Outer t b f
      → e.subject ≡ f.subject → a < b

-- k is enabled after σ: σ lacks it, and has what its thread does before it and the spawn of its thread. A position past the trace is enabled after every list of positions of
-- the trace, so the calls of a session ask about positions of the trace alone
pub record Enabled (t : List Event) (σ : List ℕ) (k : ℕ) : Type 0 where
  pub outside : Memᴰ k σ → ⊥
  pub ready : (d : ℕ) → EarlierInThread t d k → Memᴰ d σ
  pub spawned : (s : ℕ) → SpawnOf t s k → Memᴰ s σ

-- σ is correct and sync-preserving, and each of the events es is enabled after it
pub record Leaves (t : List Event) (es : List ℕ) (σ : List ℕ) : Type 0 where
  pub correct : Correct t σ
  pub sync : SyncPreserving t σ
  pub enabled : (e : ℕ) → Memᴰ e es → Enabled t σ e
