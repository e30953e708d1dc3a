-- The trace check, the lookups in a trace, what the trace check keeps and the taking of an event into a reel.
use Rattle.std.specs.Prelude.{ℕ, true, false, List, [], ◌∷◌, replicate, slice_set, Some, None, Ok, Err, Result}
use Rattle.std.proofs.Common.{refl}
use Rattle.std.proofs.lemmas.List.{length-set}
use Rattle.trace.specs.declared.event.Event.{Event}
use Rattle.trace.specs.declared.kind.Kind.TheVariants.{Write, Acquire, Spawn, Join}
use Rattle.trace.specs.declared.check.TraceCheck.{TraceCheck}
use Rattle.trace.specs.declared.locks.TraceFault.{TraceFault}
use Rattle.trace.specs.declared.locks.TraceFault.TheVariants.{AlreadyHeld}
use Rattle.trace.specs.Limits.{locks, threads}
use Rattle.trace.specs.Checks.{Tells, Turned}
use Rattle.trace.specs.Threads.{unknown}
use Rattle.trace.specs.Traces.{Admits, Outer, Previous, LastWrite, ReleaseOf}
use Rattle.reel.specs.declared.ReelFault.{ReelFault}
use Rattle.reel.specs.Reels.{Taken}
use Rattle.cases.specs.Examples.{event, sections_between, read_between, inner_section, worker_awaited}

-- an event is taken, as a reel answers
abbrev taken : Result (Unit {0}) ReelFault
taken = Ok tt

-- the trace check lets an acquire come, as it answers
abbrev let_come : Result (Unit {0}) TraceFault
let_come = Ok tt

-- wrong: a trace in which a second thread acquires a lock that is held
abbrev pub NoSecondHolder : Type 0
NoSecondHolder = Admits (event Acquire 0 0 tt tt ∷ event Acquire 1 0 tt tt ∷ []) → ⊥

-- wrong: traces in which a thread has an event after it was joined, and in which one is spawned twice
abbrev pub NoneJoined : Type 0
NoneJoined = Admits (event Spawn 0 1 tt tt ∷ event Join 0 1 tt tt ∷ event Write 1 0 tt tt ∷ []) → ⊥

abbrev pub SpawnedOnce : Type 0
SpawnedOnce = Admits (event Spawn 0 1 tt tt ∷ event Spawn 2 1 tt tt ∷ []) → ⊥

-- the previous event is the latest earlier one of the thread; wrong: the one before it
abbrev pub PreviousLatest : Type 0
PreviousLatest = Previous sections_between 5 4 × (Previous sections_between 5 3 → ⊥)

-- of the first event of a spawned thread it is the spawn; wrong: the event before that
abbrev pub PreviousSpawn : Type 0
PreviousSpawn = Previous worker_awaited 2 1 × (Previous worker_awaited 2 0 → ⊥)

-- the last write of a read is one to its variable; wrong: one to another variable
abbrev pub LastWriteOfVariable : Type 0
LastWriteOfVariable = LastWrite read_between 2 1 × (LastWrite read_between 2 0 → ⊥)

-- the release of an acquire is the one by its thread; wrong: a later one, by another thread
abbrev pub ReleaseOfThread : Type 0
ReleaseOfThread = ReleaseOf sections_between 1 2 × (ReleaseOf sections_between 1 4 → ⊥)

-- an outer acquire, and its release, which frees the lock; wrong: an acquire by the holder, and the inner release
abbrev pub ReleaseFrees : Type 0
ReleaseFrees =
    let e = event Acquire 0 0 tt tt in
    Outer inner_section 0 e × (Outer inner_section 1 e → ⊥) × ReleaseOf inner_section 0 4 × (ReleaseOf inner_section 0 2 → ⊥)

-- what the trace check keeps where no lock is held and nothing is known of any thread
abbrev pub at_first : TraceCheck
at_first = record {
  locks = record { holders = replicate locks None; whole = refl };
  threads = record { lives = replicate threads unknown; whole = refl };
}

-- and where a thread has an event, and holds lock 0, once deep
abbrev pub held_by : ℕ → TraceCheck
held_by thread = record {
  locks = record { holders = slice_set (replicate locks None) 0 (Some (record { thread = thread; depth = 1 })); whole = refl };
  threads = record {
    lives = slice_set (replicate threads unknown) thread (record { begun = true; named = false; joined = false });
    whole = length-set (replicate threads unknown) thread (record { begun = true; named = false; joined = false });
  };
}

-- the two before and after an acquire; wrong: one that tells the same after it as before
abbrev pub TableChanges : Type 0
TableChanges =
    let e = event Acquire 0 0 tt tt in
    Tells at_first [] × Tells (held_by 0) (e ∷ []) × ((check : TraceCheck) → Tells check [] → Tells check (e ∷ []) → ⊥)

-- a free lock is acquired, and one that is held is not; wrong: a check that lets a second thread acquire it, whatever it keeps then, one that
-- changes with the refusal, and one that refuses the free lock
abbrev pub HeldTurnedAway : Type 0
HeldTurnedAway =
    let e = event Acquire 0 0 tt tt in
    let f = event Acquire 1 0 tt tt in
    Turned at_first e let_come (held_by 0) × Turned (held_by 0) f (Err AlreadyHeld) (held_by 0)
    × ((check next : TraceCheck) → Tells check (e ∷ []) → Turned check f let_come next → ⊥)
    × (Turned (held_by 0) f (Err AlreadyHeld) at_first → ⊥) × (Turned at_first e (Err AlreadyHeld) at_first → ⊥)

-- a reel with room for one event takes it; wrong: it answers so and drops it; wrong: a full reel answers so, whatever it has then
abbrev pub TakenWithRoom : Type 0
TakenWithRoom =
    let e = event Write 0 0 tt tt in
    Taken 1 [] e taken (e ∷ []) × (Taken 1 [] e taken [] → ⊥) × ((after : List Event) → Taken 0 [] e taken after → ⊥)
