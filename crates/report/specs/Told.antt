-- What a person is told of a dump: a text, and what it finds.
use Rattle.std.specs.Prelude.{◌≡◌, ℕ, List, [], length, Some, None, Ok, Err, codes, Result}
use Rattle.trace.specs.declared.event.Event.{Event}
use Rattle.answer.specs.Faults.{Refusal}
use Rattle.session.specs.Entries.{enter_all}
use Rattle.session.specs.Questions.{pair_refusal}
use Rattle.session.specs.Races.{RacingPair, Races}
use Rattle.report.specs.declared.told.Finding.{Finding}
use Rattle.report.specs.declared.told.Finding.TheVariants.{Refused, Race, Nothing}
use Rattle.report.specs.Texts.{listing}
use Rattle.report.specs.Answers.{Answered}
use Rattle.report.specs.Refusals.{refused_record, refused_question}

-- what is told where the records of an input are entered first: the line of the first refusal with its words, or what is said of their events
abbrev pub ToldAfter : ℕ → List ℕ → (List Event → List ℕ → Finding → Type 0) → Result ℕ Refusal → List Event → List ℕ → Finding → Type 0
ToldAfter room input says (Ok n) t text finding = says t text finding
ToldAfter room input says (Err r) t text finding = (text ≡ refused_record room input r) × (finding ≡ Refused)

-- the same of the events of an input, for which there is so much room
abbrev pub ToldOf : ℕ → List ℕ → (List Event → List ℕ → Finding → Type 0) → List ℕ → Finding → Type 0
ToldOf room input says text finding = let o = enter_all room [] input in ToldAfter room input says o.answer o.events text finding

-- of a listing nothing is found
abbrev pub ListingTold : List Event → List ℕ → Finding → Type 0
ListingTold t text finding = (text ≡ listing t) × (finding ≡ Nothing)

-- whether there is a racing pair
pub data FindsRaces (t : List Event) : Finding → Type 0 where
  race : {p q : ℕ} → RacingPair t p q → FindsRaces t Race
  none : ((p q : ℕ) → RacingPair t p q → ⊥) → FindsRaces t Nothing

-- what stands beside a report, where the records of an input are entered first: the line of the first refusal with its words; or nothing, and
-- whether there is a racing pair
abbrev pub ReportToldAfter : ℕ → List ℕ → Result ℕ Refusal → List Event → List ℕ → Finding → Type 0
ReportToldAfter room input (Ok n) t words finding = (words ≡ []) × FindsRaces t finding
ReportToldAfter room input (Err r) t words finding = (words ≡ refused_record room input r) × (finding ≡ Refused)

-- the same of the events of an input, for which there is so much room
abbrev pub ReportToldOf : ℕ → List ℕ → List ℕ → Finding → Type 0
ReportToldOf room input words finding = let o = enter_all room [] input in ReportToldAfter room input o.answer o.events words finding

-- the answers about p, q and a list, or their refusals
pub data AnswersTold (t : List Event) (p q : ℕ) (list text : List ℕ) : Finding → Type 0 where
  refused : {n : ℕ} → pair_refusal t p q ≡ Some n → Answered t p q list text → AnswersTold t p q list text Refused
  answered : pair_refusal t p q ≡ None → Answered t p q list text → AnswersTold t p q list text Nothing

-- the verdict on p and q, or its refusal in words
pub data VerdictTold (t : List Event) (p q : ℕ) : List ℕ → Finding → Type 0 where
  refused : {n : ℕ} → pair_refusal t p q ≡ Some n → VerdictTold t p q (refused_question (length t) p q n) Refused
  race : pair_refusal t p q ≡ None → Races t p q → VerdictTold t p q (codes "race\n") Race
  no_race : pair_refusal t p q ≡ None → (Races t p q → ⊥) → VerdictTold t p q (codes "no race\n") Nothing
