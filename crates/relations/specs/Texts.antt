-- The texts that the programs print.
use Rattle.std.specs.Prelude.{◌≡◌, ℕ, List, [], ◌∷◌, ◌++◌, Some, None, Err, codes}
use Rattle.std.specs.Borrow.{Bor}
use Rattle.trace.specs.declared.event.Event.{Event}
use Rattle.trace.specs.declared.kind.Kind.TheVariants.{Read, Write}
use Rattle.trace.specs.Records.{record_of}
use Rattle.answer.specs.declared.fault.Layer.TheVariants.{Record}
use Rattle.answer.specs.declared.fault.PairFault.TheVariants.{NoEvent}
use Rattle.answer.specs.Faults.{Refusal}
use Rattle.session.specs.Races.{pair}
use Rattle.run.specs.declared.Call.TheVariants.{Judge}
use Rattle.report.specs.Answers.{answer_text, three_lines, Answered}
use Rattle.report.specs.Reports.{race_line, pairs_line, RaceLines, PartnerLines, SweepLines, Reported, ReportOf}
use Rattle.report.specs.declared.told.Finding.{Finding}
use Rattle.report.specs.declared.told.Finding.TheVariants.{Refused, Race, Nothing}
use Rattle.report.specs.Refusals.{refused_record}
use Rattle.report.specs.Texts.{events_line, refusal_line}
use Rattle.report.specs.Told.{ToldOf, AnswersTold, VerdictTold, FindsRaces}
use Rattle.report.specs.Witnesses.{witness_text, WitnessTold, partners_text, PartnersTold}
use Rattle.replies.specs.Replies.{reply_lines, told_line, Told}
use Rattle.cases.specs.Examples.{event, three_accesses}

-- the three accesses
abbrev pub first : Event
first = event Write 0 0 tt tt

abbrev pub second : Event
second = event Read 1 0 tt tt

abbrev pub third : Event
third = event Write 2 0 tt tt

-- a line for each pair; wrong: no line for one pair
abbrev pub LineOfPair : Type 0
LineOfPair = RaceLines three_accesses (pair 0 1 ∷ []) (race_line 0 1 first second) × (RaceLines three_accesses (pair 0 1 ∷ []) [] → ⊥)

-- the lines of the racing pairs
abbrev pub three_races : List ℕ
three_races = race_line 0 1 first second ++ (race_line 0 2 first third ++ (race_line 1 2 second third ++ []))

-- all pairs have lines, and those with one later position, and they are so many; wrong: no line where there is a pair, and a total of none
abbrev pub AllLines : Type 0
AllLines =
    SweepLines three_accesses 3 three_races × (SweepLines three_accesses 3 [] → ⊥) × (SweepLines three_accesses 0 three_races → ⊥)
    × PartnerLines three_accesses 1 1 (race_line 0 1 first second ++ []) × (PartnerLines three_accesses 1 1 [] → ⊥)

-- the report of the three accesses, with its total
abbrev pub three_reported : List ℕ
three_reported = events_line 3 ++ (three_races ++ pairs_line 3)

-- it is their report; wrong: the number of events and no pair
abbrev pub PairsReported : Type 0
PairsReported = Reported three_accesses three_reported × (Reported three_accesses (events_line 3) → ⊥)

-- the refusal of the first record, of which there are too few bytes
abbrev pub cut_record : Refusal
cut_record = record { number = 1; layer = Record; index = 0 }

-- the report of the records of the three accesses; wrong: the number of events and no pair
abbrev pub RecordsReported : Type 0
RecordsReported =
    let input = record_of first ++ (record_of second ++ record_of third) in
    ReportOf 3 input three_reported × (ReportOf 3 input (events_line 3) → ⊥)

-- the report of one byte is the line of its refusal; wrong: the report of no events, as if the byte had been left out
abbrev pub CutReported : Type 0
CutReported = (room : ℕ) → ReportOf room (1 ∷ []) (refusal_line cut_record) × (ReportOf room (1 ∷ []) (events_line 0 ++ ([] ++ pairs_line 0)) → ⊥)

-- the report of no bytes; wrong: the empty text
abbrev pub NothingReported : Type 0
NothingReported = (room : ℕ) → ReportOf room [] (events_line 0 ++ ([] ++ pairs_line 0)) × (ReportOf room [] [] → ⊥)

-- the three questions are refused with 8
abbrev pub three_refusals : List ℕ
three_refusals = three_lines (answer_text (Err 8)) (answer_text (Err 8)) (answer_text (Err 8))

-- a position past the trace is refused with 8, three times; wrong: the empty text
abbrev pub RefusalsAnswered : Type 0
RefusalsAnswered = (list : List ℕ) → Answered three_accesses 0 3 list three_refusals × (Answered three_accesses 0 3 list [] → ⊥)

-- and so are the answers about the records of an input; wrong: these answers where a record is refused, and that nothing is refused
abbrev pub RecordsAnswered : Type 0
RecordsAnswered =
    (room : ℕ) (list : List ℕ)
    → let told : List ℕ → List ℕ → Finding → Type 0 = λ input text finding. ToldOf room input (λ t s f. AnswersTold t 0 1 list s f) text finding in
    told [] three_refusals Refused × told (1 ∷ []) (refused_record room (1 ∷ []) cut_record) Refused × (told (1 ∷ []) three_refusals Refused → ⊥)
    × (told [] three_refusals Nothing → ⊥)

-- the first and the third access race, and a person is told so; wrong: that nothing is found
abbrev pub RaceTold : Type 0
RaceTold = VerdictTold three_accesses 0 2 (codes "race\n") Race × ((text : List ℕ) → VerdictTold three_accesses 0 2 text Nothing → ⊥)

-- the witness of the first two is told, which has no event; wrong: that nothing is found
abbrev pub WitnessShown : Type 0
WitnessShown =
    WitnessTold three_accesses 0 1 (witness_text three_accesses []) Race × ((text : List ℕ) → WitnessTold three_accesses 0 1 text Nothing → ⊥)

-- the partners of the third are told; wrong: that its question is refused
abbrev pub PartnersListed : Type 0
PartnersListed =
    PartnersTold three_accesses 2 (partners_text (0 ∷ 1 ∷ [])) Race × ((text : List ℕ) (f : Finding) → PartnersTold three_accesses 2 text f → f ≡ Refused → ⊥)

-- a report of the three finds a race; wrong: that it finds nothing
abbrev pub RacesFound : Type 0
RacesFound = FindsRaces three_accesses Race × (FindsRaces three_accesses Nothing → ⊥)

-- the line of the answer stands below the words of its call; wrong: the empty text
abbrev pub LineTold : Type 0
LineTold =
    (room : ℕ) (w : Bor (List ℕ))
    → let told : List ℕ → Type 0 = Told room (w ∷ []) (Judge 0 1 None ∷ []) in
    told (told_line w.now (Judge 0 1 (Some (Err NoEvent))) ++ []) × (told [] → ⊥)

-- the line of the answer stands alone where there are no words for its call; wrong: the empty text
abbrev pub LineAlone : Type 0
LineAlone =
    (room : ℕ)
    → let told : List ℕ → Type 0 = Told room [] (Judge 0 1 None ∷ []) in
    told (reply_lines (Judge 0 1 (Some (Err NoEvent)) ∷ [])) × (told [] → ⊥)
