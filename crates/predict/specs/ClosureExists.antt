-- That seeds have a closure, and that the closures under the rules of happens-before and of schedulable happens-before are what stands at or
-- before the seeds in these orders, however the closures were made. The statements take one rule each.
use Rattle.std.specs.Prelude.{ℕ, ◌↔◌, List, [], ◌∷◌}
use Rattle.trace.specs.declared.event.Event.{Event}
use Rattle.trace.specs.Traces.{Admits}
use Rattle.trace.specs.Cuts.{Positions, In, Wants, Closure, AllReached}
use Rattle.trace.specs.OrderTheorems.{BeforeOne}
use Rattle.predict.specs.Held.{SeedsWithin}

-- seeds inside a trace that the trace check admits have a closure, and reach each of its events
abbrev pub Existing : Wants → Type 0
Existing wants =
    (t : List Event) (ss : List ℕ) → Admits t → SeedsWithin t ss → (c : Positions) × Closure wants t ss c × AllReached wants t ss c

-- in a trace that the trace check admits, seeds reach each event of any closure of them
abbrev pub Reaching : Wants → Type 0
Reaching wants = (t : List Event) (ss : List ℕ) (c : Positions) → Admits t → Closure wants t ss c → AllReached wants t ss c

-- a relation on the positions of each trace
abbrev pub TraceOrder : Type 1
TraceOrder = List Event → ℕ → ℕ → Type 0

-- in a trace that the trace check admits, a closure has just the events that are before one of the seeds in an order
abbrev pub JustBeforeSeeds : Wants → TraceOrder → Type 0
JustBeforeSeeds wants R =
    (t : List Event) (ss : List ℕ) (c : Positions) → Admits t → Closure wants t ss c → (p : ℕ) → In p c ↔ BeforeOne (R t) ss p

-- and that of one seed q has just the events that are before q
abbrev pub JustBefore : Wants → TraceOrder → Type 0
JustBefore wants R =
    (t : List Event) (q : ℕ) (c : Positions) → Admits t → Closure wants t (q ∷ []) c → (p : ℕ) → In p c ↔ R t p q
