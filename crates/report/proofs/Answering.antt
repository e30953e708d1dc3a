-- What is told of the answers of a session.
use Rattle.std.proofs.Common.{◌≡◌, ℕ, Bool, List, [], ◌∷◌, length, Ok, Err, refl, ◌∙◌, subst, arith, codes}
use Rattle.std.proofs.lemmas.List.{nil_from_length}
use mathlib.Core.List.Memᴰ
use mathlib.Core.List.{Memᴰ}
use Rattle.trace.specs.declared.event.Event.{Event}
use Rattle.answer.specs.declared.fault.PairFault.{PairFault}
use Rattle.answer.specs.declared.verdict.RacePair.{RacePair}
use Rattle.answer.specs.declared.verdict.Verdict.TheVariants.{Race, NoRace}
use Rattle.answer.specs.Faults.{pair_number}
use Rattle.session.specs.Questions.{Answers}
use Rattle.session.specs.Questions.Answers.{refused, answered}
use Rattle.session.specs.Races.{Races, Judged, pair, SweepOf}
use Rattle.session.specs.Races.Judged.{refused as refused_pair, race, no_race}
use Rattle.report.specs.declared.told.Finding.TheVariants.{Refused, Race as Found, Nothing}
use Rattle.report.specs.Refusals.{refused_question}
use Rattle.report.specs.Reports.{SweepLines}
use Rattle.report.specs.Answers.{Answered}
use Rattle.report.specs.Told.{FindsRaces, AnswersTold, VerdictTold}
use Rattle.report.specs.Told.FindsRaces.{race as some_race, none}
use Rattle.report.specs.Told.AnswersTold.{refused as not_answered, answered as all_answered}
use Rattle.report.specs.Told.VerdictTold.{refused as not_judged, race as told_race, no_race as told_no_race}

module _ (t : List Event) where
  -- a report has a line just where there is a racing pair
  pub finds_none : {n : ℕ} {lines : List ℕ} → SweepLines t n lines → n ≡ 0 → FindsRaces t Nothing
  finds_none s zero =
      let is = nil_from_length s.pairs (s.many ∙ zero) in none (λ p q r. Memᴰ.not-nil (subst (Memᴰ (pair p q)) is ((s.all.exact p q).1 r)))

  pub finds_race : {n : ℕ} {lines : List ℕ} → SweepLines t n lines → (n ≡ 0 → ⊥) → FindsRaces t Found
  finds_race s some = by s.pairs s.all (λ e. some (let m = s.many in omega (arith, e)))
    where
      by : (xs : List RacePair) → SweepOf t xs → (length xs ≡ 0 → ⊥) → FindsRaces t Found
      by [] all some = absurd (some refl)
      by (x ∷ xs) all some = some_race ((all.exact x.first x.second).0 (Memᴰ.head refl))

  module _ (p q : ℕ) where
    -- the answers, where the pair can be asked about and where not
    pub answers_told : {holds : Type 0} {b : Bool} {list text : List ℕ} → Answers t p q holds (Ok b) → Answered t p q list text
        → AnswersTold t p q list text Nothing
    answers_told (answered can told) a = all_answered can a

    pub answers_refused : {holds : Type 0} {f : PairFault} {list text : List ℕ} → Answers t p q holds (Err f) → Answered t p q list text
        → AnswersTold t p q list text Refused
    answers_refused (refused is) a = not_answered is a

    -- the verdict
    pub judged_race : Judged t p q (Races t p q) (Ok Race) → VerdictTold t p q (codes "race\n") Found
    judged_race (race can holds) = told_race can holds

    pub judged_no_race : Judged t p q (Races t p q) (Ok NoRace) → VerdictTold t p q (codes "no race\n") Nothing
    judged_no_race (no_race can not) = told_no_race can not

    pub judged_refused : {f : PairFault} → Judged t p q (Races t p q) (Err f)
        → VerdictTold t p q (refused_question (length t) p q (pair_number f)) Refused
    judged_refused (refused_pair is) = not_judged is
