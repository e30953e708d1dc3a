-- Happens-before and schedulable happens-before.
use Rattle.trace.specs.Orders.{ReleaseBefore, HappensBefore, SchedulableHappensBefore}
use Rattle.session.specs.Questions.{NotBefore, NotScheduledBefore}
use Rattle.cases.specs.Examples.{sections_between, read_between, through_section, worker_awaited}

-- a release stands before a later acquire of its lock; wrong: that an acquire does
abbrev pub ReleaseFirst : Type 0
ReleaseFirst = ReleaseBefore sections_between 2 3 × (ReleaseBefore sections_between 1 3 → ⊥)

-- the sections order the writes around them; wrong: that the read between two writes does
abbrev pub SectionsInOrder : Type 0
SectionsInOrder = HappensBefore sections_between 0 5 × (HappensBefore read_between 0 3 → ⊥)

-- and the same as a session is asked
abbrev pub NotBeforeByRead : Type 0
NotBeforeByRead = NotBefore read_between 0 3 × (NotBefore sections_between 0 5 → ⊥)

-- a worker's write comes after the spawn and before the join; wrong: that it comes before the write between these
abbrev pub WorkerInOrder : Type 0
WorkerInOrder = HappensBefore worker_awaited 1 2 × HappensBefore worker_awaited 2 4 × (HappensBefore worker_awaited 2 3 → ⊥)

-- in schedulable happens-before the read comes after its last write and all before that; wrong: that it comes after another thread's write
-- which it does not read
abbrev pub ReadInOrder : Type 0
ReadInOrder = SchedulableHappensBefore read_between 0 2 × (SchedulableHappensBefore through_section 1 3 → ⊥)

-- and the same as a session is asked, about the previous event of the later position
abbrev pub NotScheduledByOther : Type 0
NotScheduledByOther = NotScheduledBefore through_section 1 4 × (NotScheduledBefore read_between 0 3 → ⊥)
