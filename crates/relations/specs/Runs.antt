-- Calls and how they are answered, alone and in whole runs.
use Rattle.std.specs.Prelude.{◌≡◌, ℕ, List, [], ◌∷◌, Some, None, Ok, Err, vec_items, Result, Vec, take}
use Rattle.std.specs.List.{slice_get}
use Rattle.std.specs.declared.alloc.Global.{Global}
use Rattle.trace.specs.declared.kind.Kind.TheVariants.{Read, Write}
use Rattle.trace.specs.Records.{record_of}
use Rattle.answer.specs.declared.fault.PairFault.{PairFault}
use Rattle.answer.specs.declared.fault.PairFault.TheVariants.{NoEvent, Order}
use Rattle.answer.specs.declared.verdict.Verdict.{Verdict}
use Rattle.answer.specs.declared.verdict.Verdict.TheVariants.{Race, NoRace}
use Rattle.run.specs.declared.Call.{Call}
use Rattle.run.specs.declared.Call.TheVariants.{Enter, Load, Judge, Witness, Partners}
use Rattle.run.specs.Runs.{Served, Says, Upholds}
use Rattle.cases.specs.Examples.{event, sections_between, three_accesses}

-- Judge of p and q, answered so
abbrev pub judge : ℕ → ℕ → Result Verdict PairFault → Call
judge p q r = Judge p q (Some r)

-- a verdict says itself; wrong: that race says no race
abbrev pub VerdictSays : Type 0
VerdictSays = Says sections_between 0 5 (judge 0 5 (Ok Race)) Race × (Says sections_between 0 5 (judge 0 5 (Ok Race)) NoRace → ⊥)

-- a list with 0 in it says that 0 races with 2; wrong: that it does not, and that it says so of a position which is not counted
abbrev pub ListSays : Type 0
ListSays =
    (after : Vec ℕ Global) → vec_items after ≡ 0 ∷ 1 ∷ 9 ∷ []
    → Says three_accesses 0 2 (Partners 2 after (Some (Ok 2))) Race × (Says three_accesses 0 2 (Partners 2 after (Some (Ok 2))) NoRace → ⊥)
    × (Says three_accesses 9 2 (Partners 2 after (Some (Ok 2))) Race → ⊥)

-- wrong: a full session says of a record that it is taken
abbrev pub FullServed : Type 0
FullServed =
    (bytes : Vec ℕ Global) → vec_items bytes ≡ record_of (event Write 0 0 tt tt) → Served 0 [] (Enter bytes None) (Enter bytes (Some (Ok tt))) → ⊥

-- wrong: Load says of one byte that there was no record in it
abbrev pub CutServed : Type 0
CutServed = (room : ℕ) (bytes : Vec ℕ Global) → vec_items bytes ≡ 1 ∷ [] → Served room [] (Load bytes None) (Load bytes (Some (Ok 0))) → ⊥

-- Judge is answered with the verdict; wrong: the other verdict, the answer to another question, and none
abbrev pub VerdictServed : Type 0
VerdictServed =
    (room : ℕ)
    → let served : Call → Type 0 = Served room sections_between (Judge 0 5 None) in
    served (judge 0 5 (Ok Race)) × (served (judge 0 5 (Ok NoRace)) → ⊥) × (served (judge 0 4 (Ok Race)) → ⊥) × (served (Judge 0 5 None) → ⊥)

-- of an empty session Judge is refused with 8; wrong: a verdict, and that the call is gone
abbrev pub EmptyUpheld : Type 0
EmptyUpheld =
    (room : ℕ)
    → let upheld : List Call → Type 0 = Upholds room (Judge 0 1 None ∷ []) in
    upheld (judge 0 1 (Err NoEvent) ∷ []) × (upheld (judge 0 1 (Ok Race) ∷ []) → ⊥) × (upheld [] → ⊥)

-- an event that is entered is there for the next call, so that its position twice is refused with 9; wrong: 8, as if Enter had dropped it
abbrev pub EnteredStays : Type 0
EnteredStays =
    (bytes : Vec ℕ Global) → vec_items bytes ≡ record_of (event Write 0 0 tt tt)
    → let upheld : Result Verdict PairFault → Type 0 = λ r.
    Upholds 2 (Enter bytes None ∷ Judge 0 0 None ∷ []) (Enter bytes (Some (Ok tt)) ∷ judge 0 0 r ∷ []) in
    upheld (Err Order) × (upheld (Err NoEvent) → ⊥)

-- a pair is refused with 8 before its second event is entered, and is a race after that; wrong: no race, 8 still, and a race before
abbrev pub RaceOnceEntered : Type 0
RaceOnceEntered =
    (one other : Vec ℕ Global) → vec_items one ≡ record_of (event Write 0 0 tt tt) → vec_items other ≡ record_of (event Read 1 0 tt tt)
    → let given : List Call = Enter one None ∷ Judge 0 1 None ∷ Enter other None ∷ Judge 0 1 None ∷ [] in
    let upheld : Result Verdict PairFault → Result Verdict PairFault → Type 0 = λ first second.
    Upholds 2 given (Enter one (Some (Ok tt)) ∷ judge 0 1 first ∷ Enter other (Some (Ok tt)) ∷ judge 0 1 second ∷ []) in
    upheld (Err NoEvent) (Ok Race) × (upheld (Err NoEvent) (Ok NoRace) → ⊥) × (upheld (Err NoEvent) (Err NoEvent) → ⊥)
    × (upheld (Ok Race) (Ok Race) → ⊥)

-- call i of a run, as it is given and as it comes back
abbrev Has : List Call → List Call → ℕ → Call → Call → Type 0
Has given back i x y = (slice_get given i ≡ Some x) × (slice_get back i ≡ Some y)

-- for every run; wrong: a verdict on a pair that changes
abbrev pub VerdictStays : Type 0
VerdictStays =
    (room : ℕ) (given back : List Call) (i j p q : ℕ) (x y : Verdict) (a b : Call) → Upholds room given back → Has given back i a (judge p q (Ok x))
    → Has given back j b (judge p q (Ok y)) → x ≡ y

-- for every run; wrong: a verdict of no race on a pair, and somewhere a witness of it
abbrev pub WitnessAgrees : Type 0
WitnessAgrees =
    (room : ℕ) (given back : List Call) (i j p q n : ℕ) (after : Vec ℕ Global) (a b : Call) → Upholds room given back
    → Has given back i a (judge p q (Ok NoRace)) → Has given back j b (Witness p q after (Some (Ok n))) → ⊥

-- for every run; wrong: a witness of a pair that changes
abbrev pub WitnessStays : Type 0
WitnessStays =
    (room : ℕ) (given back : List Call) (i j p q m n : ℕ) (once again : Vec ℕ Global) (a b : Call) → Upholds room given back
    → Has given back i a (Witness p q once (Some (Ok m))) → Has given back j b (Witness p q again (Some (Ok n)))
    → take m (vec_items once) ≡ take n (vec_items again)
