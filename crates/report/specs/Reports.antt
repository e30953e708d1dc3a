-- The text of the race report.
use Rattle.std.specs.Prelude.{◌≡◌, ℕ, List, [], ◌∷◌, ◌++◌, map, length, Some, codes, decimal}
use Rattle.std.specs.List.{slice_get}
use Rattle.trace.specs.declared.event.Event.{Event}
use Rattle.answer.specs.declared.verdict.RacePair.{RacePair}
use Rattle.session.specs.Entries.{enter_all}
use Rattle.session.specs.Races.{PartnersOf, pair, SweepOf}
use Rattle.report.specs.Texts.{events_line, After}

-- the line of the pair of p and q, where e and f are the events there
abbrev pub race_line : ℕ → ℕ → Event → Event → List ℕ
race_line p q e f =
    codes "race " ++ (decimal p ++ (codes " " ++ (decimal q ++ (codes " sites " ++ (decimal e.site ++ (codes " " ++ (decimal f.site ++ codes "\n")))))))

-- a text has the lines of some pairs of the trace t, in their order
pub data RaceLines (t : List Event) : List RacePair → List ℕ → Type 0 where
  none : RaceLines t [] []
  more : {p q : ℕ} {e f : Event} {xs : List RacePair} {text : List ℕ} → slice_get t p ≡ Some e → slice_get t q ≡ Some f → RaceLines t xs text
      → RaceLines t (pair p q ∷ xs) (race_line p q e f ++ text)

-- it has the lines of all racing pairs whose later position is q, by the earlier position, and they are n
pub record PartnerLines (t : List Event) (q n : ℕ) (text : List ℕ) : Type 0 where
  pub partners : List ℕ
  pub all : PartnersOf t q partners
  pub many : length partners ≡ n
  pub lines : RaceLines t (map (λ p. pair p q) partners) text

-- it has the lines of all racing pairs, in the order of Sweep, and they are n: a pair stands in that list once, and has one line
pub record SweepLines (t : List Event) (n : ℕ) (text : List ℕ) : Type 0 where
  pub pairs : List RacePair
  pub all : SweepOf t pairs
  pub many : length pairs ≡ n
  pub lines : RaceLines t pairs text

-- the line with the number of racing pairs
abbrev pub pairs_line : ℕ → List ℕ
pairs_line n = codes "pairs " ++ (decimal n ++ codes "\n")

-- the report of the trace t: the number of its events, then the lines of all racing pairs, then their number
pub record Reported (t : List Event) (text : List ℕ) : Type 0 where
  pub races : List ℕ
  pub count : ℕ
  pub all : SweepLines t count races
  pub text_is : text ≡ events_line (length t) ++ (races ++ pairs_line count)

-- the report where the records of an input are entered first: the line of the first refusal, or the report of their events
abbrev pub ReportOf : ℕ → List ℕ → List ℕ → Type 0
ReportOf room input text = let o = enter_all room [] input in After Reported o.answer o.events text
