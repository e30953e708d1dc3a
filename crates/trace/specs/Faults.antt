-- The numbers of the refusals that this crate gives.
use Rattle.std.specs.Prelude.{ℕ, Some, None, Ok, Err, Option, Result}
use Rattle.trace.specs.declared.record.RecordFault.{RecordFault}
use Rattle.trace.specs.declared.record.RecordFault.TheVariants.{Length, Kind, Thread, Subject}
use Rattle.trace.specs.declared.locks.TraceFault.{TraceFault}
use Rattle.trace.specs.declared.locks.TraceFault.TheVariants.{AlreadyHeld, NotHolder, TooDeep, NotStartable, Ended}

-- the number of a refusal by the codec
abbrev pub record_number : RecordFault → ℕ
record_number Length = 1
record_number Kind = 2
record_number Thread = 3
record_number Subject = 4

-- the number of a refusal by the trace check
abbrev pub trace_number : TraceFault → ℕ
trace_number AlreadyHeld = 5
trace_number NotHolder = 6
trace_number TooDeep = 13
trace_number NotStartable = 14
trace_number Ended = 15

-- an answer, with a refusal told in other terms, as by its number
abbrev pub told : {A F G : Type 0} → (F → G) → Result A F → Result A G
told tell (Ok x) = Ok x
told tell (Err f) = Err (tell f)

-- the refusal in an answer, in such terms, if it is one
abbrev pub refusal_in : {A F G : Type 0} → (F → G) → Result A F → Option G
refusal_in tell (Ok x) = None
refusal_in tell (Err f) = Some (tell f)
