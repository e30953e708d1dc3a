-- What is printed for a question about a dump.
use Rattle.std.specs.Prelude.{◌≡◌, ℕ, List, [], vec_items}
use Rattle.report.specs.declared.told.Finding.{Finding}
use Rattle.report.specs.declared.told.Finding.TheVariants.{Refused, Race, Nothing}
use Rattle.report.specs.Reports.{ReportOf}
use Rattle.report.specs.Told.{ToldOf, ReportToldOf, ListingTold, AnswersTold, VerdictTold}
use Rattle.report.specs.Witnesses.{WitnessTold, PartnersTold}
use Rattle.lenogneiss.specs.declared.question.Question.{Question}
use Rattle.lenogneiss.specs.declared.question.Question.TheVariants.{Report, List as Listing, Judge, Witness, Partners, Ask}

-- for how many events there is room
abbrev pub event_room : ℕ
event_room = 4096

-- the text that is printed, what is said beside it, and what it finds: the report is that of racereport, so the words of a refusal stand beside it
abbrev pub Printed : Question → List ℕ → List ℕ → List ℕ → Finding → Type 0
Printed Report dump text note finding = ReportOf event_room dump text × ReportToldOf event_room dump note finding
Printed Listing dump text note finding = ToldOf event_room dump ListingTold text finding × (note ≡ [])
Printed (Judge p q) dump text note finding = ToldOf event_room dump (λ t s f. VerdictTold t p q s f) text finding × (note ≡ [])
Printed (Witness p q) dump text note finding = ToldOf event_room dump (λ t s f. WitnessTold t p q s f) text finding × (note ≡ [])
Printed (Partners q) dump text note finding = ToldOf event_room dump (λ t s f. PartnersTold t q s f) text finding × (note ≡ [])
Printed (Ask p q list) dump text note finding =
    ToldOf event_room dump (λ t s f. AnswersTold t p q (vec_items list) s f) text finding × (note ≡ [])

-- the status that tells a finding
abbrev pub status_of : Finding → ℕ
status_of Nothing = 0
status_of Race = 1
status_of Refused = 2
