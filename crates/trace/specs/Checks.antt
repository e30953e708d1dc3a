-- What the trace check keeps in its tables.
use Rattle.std.specs.Prelude.{◌≡◌, ℕ, false, cond, List, is_ok, Result}
use Rattle.trace.specs.declared.event.Event.{Event}
use Rattle.trace.specs.declared.check.TraceCheck.{TraceCheck}
use Rattle.trace.specs.declared.locks.TraceFault.{TraceFault}
use Rattle.trace.specs.Faults.{trace_number, refusal_in}
use Rattle.trace.specs.Traces.{Standing, after_event, standing_after, trace_refusal}
use Rattle.trace.specs.Locks.{holders, with_taken}
use Rattle.trace.specs.Threads.{lives}

-- what its tables keep
abbrev pub standing : TraceCheck → Standing
standing check = record { holders = holders check.locks; lives = lives check.threads }

-- the same is kept of each lock and each thread
pub record SameStanding (a b : Standing) : Type 0 where
  pub holders : (l : ℕ) → a.holders l ≡ b.holders l
  pub lives : (p : ℕ) → a.lives p ≡ b.lives p

-- the tables keep what is kept at the end of the trace t
abbrev pub Tells : TraceCheck → List Event → Type 0
Tells check t = SameStanding (standing check) (standing_after t)

-- the trace check of the event e by the tables: it refuses just where the definition does for what they keep, and they then keep what is kept after
-- the event; a refusal leaves them as they were. So of any trace that the tables tell of, it refuses just where the trace check does, and they then
-- tell of the trace with the event
pub record Turned (check : TraceCheck) (e : Event) (r : Result (Unit {0}) TraceFault) (next : TraceCheck) : Type 0 where
  pub by_standing : refusal_in trace_number r ≡ trace_refusal (standing check) e
  pub standing_then : SameStanding (standing next) (cond (is_ok r) (after_event (standing check) e) (standing check))
  pub answer : (t : List Event) → Tells check t → refusal_in trace_number r ≡ trace_refusal (standing_after t) e
  pub tells : (t : List Event) → Tells check t → Tells next (with_taken t e r)
  pub same : is_ok r ≡ false → next ≡ check
