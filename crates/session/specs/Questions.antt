-- What a session answers to questions about two positions of its trace t.
use Rattle.std.specs.Prelude.{◌≡◌, ℕ, Bool, true, cond, ◌⊎◌, ◌↔◌, List, [], ◌∷◌, Some, None, Ok, Err, Option, Result, nat_lt}
use Rattle.std.specs.List.{slice_get}
use Rattle.trace.specs.declared.event.Event.{Event}
use Rattle.trace.specs.Traces.{Previous}
use Rattle.trace.specs.Conflicts.{conflict}
use Rattle.trace.specs.Reorderings.{Leaves}
use Rattle.trace.specs.Cuts.{Positions, In, Wants, Closure, HappensBeforeWants, SchedulableWants}
use Rattle.trace.specs.Orders.{HappensBefore, SchedulableHappensBefore}
use Rattle.answer.specs.declared.fault.PairFault.{PairFault}
use Rattle.answer.specs.Faults.{pair_number}

-- why a question about p and q is refused, where these are the events there: 8 where one is missing, 9 where p is not below q, 10 where the
-- two do not conflict
abbrev pub refusal_of : ℕ → ℕ → Option Event → Option Event → Option ℕ
refusal_of p q None f = Some 8
refusal_of p q (Some e) None = Some 8
refusal_of p q (Some e) (Some f) = cond (nat_lt p q) (cond (conflict e f) None (Some 10)) (Some 9)

-- why a question about the positions p and q of t is refused, by the events there; none where the two can be asked about
abbrev pub pair_refusal : List Event → ℕ → ℕ → Option ℕ
pair_refusal t p q = refusal_of p q (slice_get t p) (slice_get t q)

-- a question about p and q: refused with the number of the first check that fails, else answered yes exactly when something holds
pub data Answers (t : List Event) (p q : ℕ) (holds : Type 0) : Result Bool PairFault → Type 0 where
  refused : {f : PairFault} → pair_refusal t p q ≡ Some (pair_number f) → Answers t p q holds (Err f)
  answered : {b : Bool} → pair_refusal t p q ≡ None → (b ≡ true) ↔ holds → Answers t p q holds (Ok b)

-- p is outside the closure of the seeds
abbrev pub Outside : Wants → List Event → List ℕ → ℕ → Type 0
Outside wants t seeds p = (c : Positions) × Closure wants t seeds c × (In p c → ⊥)

-- Vet of p, q and a list of positions
abbrev pub Vetted : List Event → ℕ → ℕ → List ℕ → Type 0
Vetted t p q list = Leaves t (p ∷ q ∷ []) list

-- Unordered: p is outside the happens-before closure of q
abbrev pub Unordered : List Event → ℕ → ℕ → Type 0
Unordered t p q = Outside HappensBeforeWants t (q ∷ []) p

-- the same by the relation: p does not happen before q
abbrev pub NotBefore : List Event → ℕ → ℕ → Type 0
NotBefore t p q = HappensBefore t p q → ⊥

-- Schedulable: q has no previous event, or p is outside the schedulable closure of it
abbrev pub Schedulable : List Event → ℕ → ℕ → Type 0
Schedulable t p q = ((d : ℕ) → Previous t q d → ⊥) ⊎ ((d : ℕ) × Previous t q d × Outside SchedulableWants t (d ∷ []) p)

-- the same by the relation: p is not before the previous event of q, if there is one
abbrev pub NotScheduledBefore : List Event → ℕ → ℕ → Type 0
NotScheduledBefore t p q = (d : ℕ) → Previous t q d → SchedulableHappensBefore t p d → ⊥
