-- Rules, and what a rule is asked about a cut.
use Rattle.std.specs.Prelude.{◌≡◌, ℕ, ◌||◌, List, ◌∷◌, Some, None, replicate, slice_set, ◌==◌}
use Rattle.trace.specs.Limits.{locks}
use Rattle.trace.specs.Cuts.{Positions, Laws, SyncWants, HappensBeforeWants, SchedulableWants}
use Rattle.predict.specs.Held.{NamesOutside, Answers, Misses}
use Rattle.predict.specs.Parts.{ReadWants, LockWants, Enough}
use Rattle.cases.specs.Examples.{sections_between, writes_locked, read_between, worker_awaited}

-- one position, and two, as a cut
abbrev pub one : ℕ → Positions
one a k = k == a

abbrev pub two : ℕ → ℕ → Positions
two a b k = k == a || k == b

-- the bounds of a cut with the events of thread 0 below one position and those of thread 1 below another
abbrev pub bounds : ℕ → ℕ → List ℕ
bounds a b = a ∷ b ∷ replicate 14 0

-- wrong: a rule that wants an event whatever the cut has
abbrev pub LawsNeedCause : Type 0
LawsNeedCause = Laws (λ t c w. w ≡ 5) → ⊥

-- of two acquires of one lock the first wants its release; wrong: that a lone acquire wants it
abbrev pub SyncOfTwo : Type 0
SyncOfTwo = SyncWants writes_locked (two 0 3) 2 × (SyncWants writes_locked (one 0) 2 → ⊥)

-- a read wants its last write; wrong: that it wants a write to another variable
abbrev pub SyncOfRead : Type 0
SyncOfRead = SyncWants read_between (one 2) 1 × (SyncWants read_between (one 2) 0 → ⊥)

-- an event of a spawned thread wants the spawn, and a join the last event of the thread that it awaits; wrong: that an event of another thread
-- wants the spawn, and that a join wants an event of another thread
abbrev pub ThreadsWanted : Type 0
ThreadsWanted =
    SyncWants worker_awaited (one 2) 1 × SyncWants worker_awaited (one 4) 2 × (SyncWants worker_awaited (one 3) 1 → ⊥)
    × (SyncWants worker_awaited (one 4) 3 → ⊥)

-- in happens-before a lone acquire wants the earlier release; wrong: that a release wants one, and that a read wants its last write
abbrev pub ReleaseWanted : Type 0
ReleaseWanted =
    HappensBeforeWants sections_between (one 3) 2 × (HappensBeforeWants sections_between (one 4) 2 → ⊥)
    × (HappensBeforeWants read_between (one 2) 1 → ⊥)

-- in schedulable happens-before both are wanted; wrong: that a write is, of a read of another variable
abbrev pub BothWanted : Type 0
BothWanted =
    SchedulableWants sections_between (one 3) 2 × SchedulableWants read_between (one 2) 1 × (SchedulableWants read_between (one 2) 0 → ⊥)

-- two of the three parts of the sync rule; wrong: a read that is not in the cut, and an acquire that is alone
abbrev pub HalvesOfSync : Type 0
HalvesOfSync =
    ReadWants read_between (one 2) 1 × (ReadWants read_between (one 3) 1 → ⊥)
    × LockWants writes_locked (two 0 3) 2 × (LockWants writes_locked (one 0) 2 → ⊥)

-- a cut with both acquires misses the release; wrong: that it misses none, and that it misses some other event
abbrev pub ReleaseMissed : Type 0
ReleaseMissed =
    Misses SyncWants writes_locked (bounds 1 4) (Some 2) × (Misses SyncWants writes_locked (bounds 1 4) None → ⊥)
    × (Misses SyncWants writes_locked (bounds 1 4) (Some 5) → ⊥)

-- wrong: that a cut misses the release that it has, though it wants it
abbrev pub MissedOutside : Type 0
MissedOutside =
    NamesOutside writes_locked (bounds 1 4) (Some 2) × (NamesOutside writes_locked (bounds 3 4) (Some 2) → ⊥)
    × Answers SyncWants writes_locked (bounds 3 4) (Some 2) × (Misses SyncWants writes_locked (bounds 3 4) (Some 2) → ⊥)

-- it is enough to look at the acquires of lock 0 before position 4; wrong: that it is enough to look at none
abbrev pub SearchEnough : Type 0
SearchEnough =
    Enough writes_locked (bounds 1 4) (slice_set (replicate locks 0) 0 4) × (Enough writes_locked (bounds 1 4) (replicate locks 0) → ⊥)
