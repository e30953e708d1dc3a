-- The table of lock holders beside a pass over events.
use Rattle.std.proofs.Common.{◌≡◌, ℕ, true, List, [], ◌∷◌, ◌++◌, is_ok, Result, sym, ap, ◌∙◌}
use Rattle.trace.specs.declared.event.Event.{Event}
use Rattle.trace.specs.declared.locks.LockTable.{LockTable}
use Rattle.trace.specs.declared.locks.TraceFault.{TraceFault}
use Rattle.trace.specs.Traces.{Standing, at_start, standing_after}
use Rattle.trace.specs.Locks.{holders, LocksTurned}
use Rattle.trace.proofs.Holders.{after_append, same_turn}

-- the table has the holders at the end of some events
abbrev pub Holds : LockTable → List Event → Type 0
Holds table es = (l : ℕ) → holders table l ≡ (standing_after es).holders l

-- then it has those after an event more that its lock lets come
pub holds_next : (table : LockTable) (es : List Event) (e : Event) (r : Result (Unit {0}) TraceFault) (next : LockTable) → LocksTurned table e r next
    → Holds table es → is_ok r ≡ true → Holds next (es ++ (e ∷ []))
holds_next table es e r next turned holds comes l =
    turned.then comes l ∙ same_turn e.kind e.thread e.subject (holders table) (standing_after es).holders holds l
    ∙ ap (λ (s : Standing). s.holders l) (sym (after_append at_start es (e ∷ [])))
