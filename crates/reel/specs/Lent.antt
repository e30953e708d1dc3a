-- What the bytes hold that a caller lends to a reel.
use Rattle.std.specs.Prelude.{◌≡◌, ℕ, ◌*◌, ◌≤◌, List, ◌++◌, length, take, drop}
use Rattle.std.specs.List.{flat_map}
use Rattle.trace.specs.declared.event.Event.{Event}
use Rattle.trace.specs.Records.{record_of}
use Rattle.reel.specs.Stored.{replaced}

-- the bytes, with others in the place of those from a position on, as far as there are bytes
abbrev pub overwritten : List ℕ → ℕ → List ℕ → List ℕ
overwritten bytes at new = take (length bytes) (replaced bytes at new)

-- what lent bytes hold once a list of events has become a longer one: the record of each event more is in its place, as far as there are bytes,
-- and all other bytes are as they were
abbrev pub recorded_in : List ℕ → List Event → List Event → List ℕ
recorded_in lent before after = overwritten lent (8 * length before) (flat_map record_of (drop (length before) after))

-- with no event more they stay
abbrev pub LentStays : Type 0
LentStays = (lent : List ℕ) (t : List Event) → recorded_in lent t t ≡ lent

-- where there are bytes enough for the records, those of the events more stand between the bytes before and behind them
abbrev pub LentRecords : Type 0
LentRecords = (lent : List ℕ) (t new : List Event) → 8 * length (t ++ new) ≤ length lent
    → recorded_in lent t (t ++ new) ≡ take (8 * length t) lent ++ flat_map record_of new ++ drop (8 * length (t ++ new)) lent

-- events that come in two parts leave the same bytes as if they had come at once
abbrev pub LentTogether : Type 0
LentTogether = (lent : List ℕ) (t u v : List Event)
    → recorded_in (recorded_in lent t (t ++ u)) (t ++ u) (t ++ u ++ v) ≡ recorded_in lent t (t ++ u ++ v)
