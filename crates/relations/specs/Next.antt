-- When an event may come next after some positions of a trace.
use Rattle.std.specs.Prelude.{[], ◌∷◌, Some, None}
use Rattle.trace.specs.declared.kind.Kind.TheVariants.{Read}
use Rattle.trace.specs.declared.check.TraceCheck.{TraceCheck}
use Rattle.trace.specs.Checks.{Tells}
use Rattle.reorder.specs.Comes.{AcquiredBefore, HasSpawns, HasEvents, Agrees, Comes, Answered}
use Rattle.cases.specs.Examples.{event, sections_between, writes_locked, read_between, worker_awaited}
use Rattle.relations.specs.Traces.{held_by}
use Rattle.relations.specs.Reorderings.{write_within}

-- an acquire agrees with the trace after the earlier ones of its lock; wrong: after a later one
abbrev pub AcquiresAgree : Type 0
AcquiresAgree = AcquiredBefore writes_locked (0 ∷ 2 ∷ []) 3 0 × (AcquiredBefore writes_locked (3 ∷ []) 0 0 → ⊥)

-- a list has the spawns of a thread, and its events; wrong: one that lacks the spawn, and one without the event
abbrev pub ThreadHad : Type 0
ThreadHad =
    HasSpawns worker_awaited (1 ∷ []) 2 1 × (HasSpawns worker_awaited (0 ∷ []) 2 1 → ⊥)
    × HasEvents worker_awaited (2 ∷ []) 4 1 × (HasEvents worker_awaited [] 4 1 → ⊥)

-- a read agrees with the trace after its last write; wrong: after no write
abbrev pub ReadAgrees : Type 0
ReadAgrees =
    let e = event Read 1 1 tt tt in Agrees read_between (0 ∷ 1 ∷ []) 2 e × (Agrees read_between [] 2 e → ⊥)

-- an acquire comes first; wrong: the release before it, and an acquire after a later one of its lock
abbrev pub AcquireComes : Type 0
AcquireComes = Comes sections_between [] 3 × (Comes sections_between [] 4 → ⊥) × (Comes write_within (3 ∷ 4 ∷ []) 0 → ⊥)

-- where an acquire may come the answer is what the trace check keeps after it, and where it may not, none; wrong: none where it may, something
-- where it may not, and what was kept before
abbrev pub TableAnswered : Type 0
TableAnswered =
    Answered sections_between [] 3 (Some (held_by 1)) × Answered sections_between [] 4 None × (Answered sections_between [] 3 None → ⊥)
    × ((check : TraceCheck) → Answered write_within (3 ∷ 4 ∷ []) 0 (Some check) → ⊥)
    × ((check : TraceCheck) → Tells check [] → Answered sections_between [] 3 (Some check) → ⊥)
