-- What the table of lock holders says.
use Rattle.std.specs.Prelude.{◌≡◌, ℕ, true, false, cond, List, [], ◌∷◌, ◌++◌, is_ok, None, Result, slice_index_or}
use Rattle.trace.specs.declared.event.Event.{Event}
use Rattle.trace.specs.declared.locks.TraceFault.{TraceFault}
use Rattle.trace.specs.declared.locks.LockTable.{LockTable}
use Rattle.trace.specs.Faults.{trace_number, refusal_in}
use Rattle.trace.specs.Traces.{Holders, turn, lock_refusal}

-- the holders that the table has
abbrev pub holders : LockTable → Holders
holders table l = slice_index_or table.holders l None

-- a trace with the event e more, unless the answer refuses it
abbrev pub with_taken : {A F : Type 0} → List Event → Event → Result A F → List Event
with_taken t e r = cond (is_ok r) (t ++ (e ∷ [])) t

-- what a table answers to the event e for the holders that it has; then it has those after the event, and a refusal leaves it as it was
pub record LocksTurned (table : LockTable) (e : Event) (r : Result (Unit {0}) TraceFault) (next : LockTable) : Type 0 where
  pub answer : refusal_in trace_number r ≡ lock_refusal e.kind e.thread (holders table e.subject)
  pub then : is_ok r ≡ true → (l : ℕ) → holders next l ≡ turn e.kind e.thread e.subject (holders table) l
  pub same : is_ok r ≡ false → next ≡ table
