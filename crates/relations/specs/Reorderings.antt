-- Reorderings of a trace: what each clause of the definition excludes.
use Rattle.std.specs.Prelude.{List, [], ◌∷◌, false}
use Rattle.trace.specs.declared.event.Event.{Event}
use Rattle.trace.specs.declared.kind.Kind.TheVariants.{Write, Acquire, Release}
use Rattle.trace.specs.Reorderings.{Ascending, LatestWrite, Correct, SyncPreserving, Enabled, Leaves}
use Rattle.reorder.specs.Comes.{Reorders}
use Rattle.answer.specs.declared.verdict.Verdict.TheVariants.{NoRace}
use Rattle.cases.specs.Examples.{event, sections_between, read_between, three_accesses, worker_awaited}
use Rattle.cases.specs.Cases.{Judges, Vets}

-- 0a0 0w0 0z0 1a0 1z0 1w0: the section with the first write could come after the other one
abbrev pub write_within : List Event
write_within =
    event Acquire 0 0 tt tt ∷ event Write 0 0 tt tt ∷ event Release 0 0 tt tt
    ∷ event Acquire 1 0 tt tt ∷ event Release 1 0 tt tt ∷ event Write 1 0 tt tt ∷ []

-- wrong: a list that goes back, and one with a position twice
abbrev pub AscendingOnly : Type 0
AscendingOnly = Ascending (1 ∷ 2 ∷ []) × (Ascending (2 ∷ 1 ∷ []) → ⊥) × (Ascending (1 ∷ 1 ∷ []) → ⊥)

-- of two writes of a list the one behind is the latest; wrong: the one in front
abbrev pub LatestBehind : Type 0
LatestBehind = LatestWrite three_accesses (0 ∷ 2 ∷ []) 0 2 × (LatestWrite three_accesses (0 ∷ 2 ∷ []) 0 0 → ⊥)

-- wrong: a position past the trace
abbrev pub InTraceOnly : Type 0
InTraceOnly = Correct three_accesses (7 ∷ []) → ⊥

-- wrong: an event twice
abbrev pub OnceOnly : Type 0
OnceOnly = Correct three_accesses (0 ∷ 0 ∷ []) → ⊥

-- wrong: a release without the acquire before it in its thread
abbrev pub ThreadOrderKept : Type 0
ThreadOrderKept = Correct sections_between (4 ∷ []) → ⊥

-- wrong: a second thread acquires the lock while the first holds it
abbrev pub LocksKept : Type 0
LocksKept = Correct write_within (0 ∷ 3 ∷ []) → ⊥

-- wrong: a read without the write that it reads from
abbrev pub ReadsKept : Type 0
ReadsKept = Correct read_between (2 ∷ []) → ⊥

-- wrong: an event of a spawned thread without the spawn
abbrev pub SpawnsKept : Type 0
SpawnsKept = Correct worker_awaited (2 ∷ []) → ⊥

-- wrong: a join without the event of the thread that it awaits
abbrev pub AwaitedKept : Type 0
AwaitedKept = Correct worker_awaited (0 ∷ 1 ∷ 3 ∷ 4 ∷ []) → ⊥

-- the first event of a spawned thread is enabled after the spawn; wrong: before it
abbrev pub EnabledOnceSpawned : Type 0
EnabledOnceSpawned = Enabled worker_awaited (0 ∷ 1 ∷ []) 2 × (Enabled worker_awaited (0 ∷ []) 2 → ⊥)

-- an event is enabled after all events before it in its thread; wrong: after only the first of them, and after itself
abbrev pub EnabledAfterAll : Type 0
EnabledAfterAll =
    Enabled sections_between (3 ∷ 4 ∷ []) 5 × (Enabled sections_between (3 ∷ []) 5 → ⊥) × (Enabled sections_between (3 ∷ 4 ∷ 5 ∷ []) 5 → ⊥)

-- the two sections the other way round are correct, and leave both writes enabled; wrong: that this preserves the order of the acquires
abbrev pub SectionsSwapped : Type 0
SectionsSwapped =
    let σ = 3 ∷ 4 ∷ 0 ∷ [] in
    Correct write_within σ × Enabled write_within σ 1 × Enabled write_within σ 5 × (SyncPreserving write_within σ → ⊥)

-- so the two do not race, and Vet says no to that list
abbrev pub SwapRefused : Type 0
SwapRefused = Judges write_within 1 5 NoRace × Vets write_within 1 5 (3 ∷ 4 ∷ 0 ∷ []) false

-- the section of the second thread is a reordering that leaves both writes enabled; wrong: that the swapped sections are one, and that one
-- without the section leaves them enabled
abbrev pub SectionReorders : Type 0
SectionReorders =
    Reorders sections_between (3 ∷ 4 ∷ []) × (Reorders write_within (3 ∷ 4 ∷ 0 ∷ []) → ⊥)
    × Leaves sections_between (0 ∷ 5 ∷ []) (3 ∷ 4 ∷ []) × (Leaves sections_between (0 ∷ 5 ∷ []) [] → ⊥)
