-- Cuts, and the closures of seeds under a rule.
use Rattle.std.specs.Prelude.{false, [], ◌∷◌, Some, None}
use Rattle.trace.specs.Cuts.{Inside, Cut, Closed, Closure, AllReached, SyncWants, SeedsOf}
use Rattle.predict.specs.declared.cut.Cut.{Cut as Bounds}
use Rattle.predict.specs.Held.{held, SeedsWithin, Closes}
use Rattle.session.specs.Races.{OutsideSync, FoundRace}
use Rattle.cases.specs.Examples.{sections_between, writes_locked, three_accesses}
use Rattle.relations.specs.Rules.{one, two, bounds}

-- a cut has the first events of a thread; wrong: the second without the first
abbrev pub CutFromFirst : Type 0
CutFromFirst = Cut writes_locked (one 0) × (Cut writes_locked (one 1) → ⊥)

-- wrong: the greater cut inside the lesser
abbrev pub LessInside : Type 0
LessInside = Inside (one 0) (two 0 3) × (Inside (two 0 3) (one 0) → ⊥)

-- a cut with the release is closed; wrong: one with two acquires and no release
abbrev pub ClosedWithRelease : Type 0
ClosedWithRelease = Closed SyncWants writes_locked (held writes_locked (bounds 3 4)) × (Closed SyncWants writes_locked (two 0 3) → ⊥)

-- no seeds have no events as their closure; wrong: a closed cut with more events than the seeds bring in
abbrev pub ClosureLeast : Type 0
ClosureLeast = Closure SyncWants three_accesses [] (λ k. false) × (Closure SyncWants three_accesses [] (one 2) → ⊥)

-- the seeds of two events are their previous events; wrong: an event before these, and none
abbrev pub SeedsPrevious : Type 0
SeedsPrevious =
    SeedsOf sections_between (0 ∷ 5 ∷ []) (4 ∷ []) × (SeedsOf sections_between (0 ∷ 5 ∷ []) (3 ∷ []) → ⊥)
    × (SeedsOf sections_between (0 ∷ 5 ∷ []) [] → ⊥)

-- wrong: a seed past the trace
abbrev pub SeedsInTrace : Type 0
SeedsInTrace = SeedsWithin three_accesses (0 ∷ 2 ∷ []) × (SeedsWithin three_accesses (3 ∷ []) → ⊥)

-- two acquires reach the release of the first; wrong: that the first alone reaches the second
abbrev pub ReleaseReached : Type 0
ReleaseReached =
    AllReached SyncWants writes_locked (0 ∷ 3 ∷ []) (one 2) × (AllReached SyncWants writes_locked (0 ∷ []) (one 3) → ⊥)

-- the closure of two acquires has the first section and the second acquire; wrong: a cut without the release, and one with the second write
abbrev pub ClosesBetween : Type 0
ClosesBetween =
    Closes SyncWants writes_locked (0 ∷ 3 ∷ []) (bounds 3 4) × (Closes SyncWants writes_locked (0 ∷ 3 ∷ []) (bounds 1 4) → ⊥)
    × (Closes SyncWants writes_locked (0 ∷ 3 ∷ []) (bounds 3 5) → ⊥)

-- the first write is outside the sync closure where the sections stand between; wrong: that it is where a lock covers both writes
abbrev pub OutsideSections : Type 0
OutsideSections = OutsideSync sections_between 0 5 × (OutsideSync writes_locked 1 4 → ⊥)

-- under one lock no race is found; wrong: some cut, and that none is found where the sections stand between
abbrev pub FoundOutside : Type 0
FoundOutside =
    FoundRace writes_locked 1 4 None × ((cut : Bounds) → FoundRace writes_locked 1 4 (Some cut) → ⊥) × (FoundRace sections_between 0 5 None → ⊥)
