-- Why the definitions may speak of earlier spawns and of earlier events of an awaited thread alone: in a trace that the trace check admits there are no
-- others.
use Rattle.std.specs.Prelude.{◌≡◌, ℕ, ◌<◌, List}
use Rattle.trace.specs.declared.event.Event.{Event}
use Rattle.trace.specs.declared.kind.Kind.TheVariants.{Spawn, Join}
use Rattle.trace.specs.Traces.{At, Admits}

-- a spawn stands before all events of the thread that it spawns, and is the only spawn of it
abbrev pub SpawnsFirst : Type 0
SpawnsFirst = (t : List Event) → Admits t → (s k : ℕ) (e f : Event) → At t s e → At t k f → e.kind ≡ Spawn
    → (f.thread ≡ e.subject → s < k) × (f.kind ≡ Spawn → f.subject ≡ e.subject → k ≡ s)

-- a join stands after all events of the thread that it awaits
abbrev pub JoinsLast : Type 0
JoinsLast = (t : List Event) → Admits t → (k m : ℕ) (f e : Event) → At t k f → At t m e → f.kind ≡ Join → e.thread ≡ f.subject → m < k
