-- What a caller's buffer holds after a call.
use Rattle.std.specs.Prelude.{◌≡◌, ℕ, List, [], ◌∷◌, Ok, Err, Result}
use Rattle.answer.specs.declared.collector.BufferFault.{BufferFault}
use Rattle.answer.specs.declared.collector.BufferFault.TheVariants.{Full}
use Rattle.answer.specs.declared.collector.Collector.{Collector}
use Rattle.answer.specs.Buffers.{Filled, Collecting, Offered}
use Rattle.answer.specs.Collectors.{Adds}

-- a list of one entry in a buffer of two stands at the start, and the entry behind stays; wrong: another entry behind it, 12 while it fits, and a
-- count of two
abbrev pub FilledAtStart : Type 0
FilledAtStart =
    Filled {A = ℕ} (7 ∷ []) (9 ∷ 9 ∷ []) (Ok 1) (7 ∷ 9 ∷ [])
    × (Filled {A = ℕ} (7 ∷ []) (9 ∷ 9 ∷ []) (Ok 1) (7 ∷ 7 ∷ []) → ⊥)
    × ((after : List ℕ) → Filled {A = ℕ} (7 ∷ []) (9 ∷ 9 ∷ []) (Err Full) after → ⊥)
    × ((after : List ℕ) → Filled {A = ℕ} (7 ∷ []) (9 ∷ 9 ∷ []) (Ok 2) after → ⊥)

-- a list of two entries in a buffer of one is refused, and its first entry stands there; wrong: the buffer as it was, and an answer of one
abbrev pub FilledWhenShort : Type 0
FilledWhenShort =
    Filled {A = ℕ} (7 ∷ 8 ∷ []) (9 ∷ []) (Err Full) (7 ∷ [])
    × (Filled {A = ℕ} (7 ∷ 8 ∷ []) (9 ∷ []) (Err Full) (9 ∷ []) → ⊥)
    × ((after : List ℕ) → Filled {A = ℕ} (7 ∷ 8 ∷ []) (9 ∷ []) (Ok 1) after → ⊥)

-- for every list and buffer, what is filled is what collecting the list entry by entry comes to
abbrev pub FilledCollects : Type 0
FilledCollects = (list before after : List ℕ) (r : Result ℕ BufferFault) → Filled list before r after → Collecting before list after r

-- one entry collected into a buffer of two; wrong: an entry that is lost, and a count of none
abbrev pub CollectedAtStart : Type 0
CollectedAtStart =
    Collecting {A = ℕ} (9 ∷ 9 ∷ []) (7 ∷ []) (7 ∷ 9 ∷ []) (Ok 1) × (Collecting {A = ℕ} (9 ∷ 9 ∷ []) (7 ∷ []) (9 ∷ 9 ∷ []) (Ok 1) → ⊥)
    × (Collecting {A = ℕ} (9 ∷ 9 ∷ []) (7 ∷ []) (7 ∷ 9 ∷ []) (Ok 0) → ⊥)

-- one entry offered after none counts as one; wrong: as two
abbrev pub OfferedCounts : Type 0
OfferedCounts =
    Offered {A = ℕ} (7 ∷ []) (9 ∷ 9 ∷ []) (Ok 0) (7 ∷ 9 ∷ []) (Ok 1) × (Offered {A = ℕ} (7 ∷ []) (9 ∷ 9 ∷ []) (Ok 0) (7 ∷ 9 ∷ []) (Ok 2) → ⊥)

-- wrong: a collector that has written nothing adds an entry and has written nothing still
abbrev pub AddsCount : Type 0
AddsCount =
    (old new : Collector ℕ) → old.entries.now ≡ 9 ∷ 9 ∷ [] → old.written ≡ Ok 0 → new.written ≡ Ok 0 → Adds (7 ∷ []) old new → ⊥
