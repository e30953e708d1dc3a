-- Which acquires and releases are inner is told by the thread's own events; it is the same by who holds the lock, and in every correct reordering.
use Rattle.std.specs.Prelude.{◌≡◌, ℕ, cond, List, ◌∷◌, ◌++◌, Some, None, Option, ◌==◌}
use Rattle.trace.specs.declared.event.Event.{Event}
use Rattle.trace.specs.declared.hold.Hold.{Hold}
use Rattle.trace.specs.Traces.{At, standing_after, Admits, depth, depth_at}
use Rattle.trace.specs.Reorderings.{picked, Correct}

-- how deep a thread is in a lock that is held so
abbrev pub depth_in : Option Hold → ℕ → ℕ
depth_in None thread = 0
depth_in (Some h) thread = cond (h.thread == thread) h.depth 0

-- in a trace that the trace check admits, a thread is in a lock just as deep as it holds it
abbrev pub HeldAsDeep : Type 0
HeldAsDeep = (t : List Event) → Admits t → (thread lock : ℕ) → depth_in ((standing_after t).holders lock) thread ≡ depth thread lock t

-- in a correct reordering of any trace, the thread of an event is as deep in its lock before the event as in the trace
abbrev pub DepthKept : Type 0
DepthKept = (t : List Event) (σ xs ys : List ℕ) (k : ℕ) (e : Event) → Correct t σ → σ ≡ xs ++ (k ∷ ys) → At t k e
    → depth e.thread e.subject (picked t xs) ≡ depth_at t k e
