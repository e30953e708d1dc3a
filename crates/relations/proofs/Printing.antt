-- The examples of texts.
use Rattle.std.proofs.Common.{◌≡◌, ℕ, ◌+◌, ◌↔◌, List, [], ◌∷◌, ◌++◌, map, length, codes, decimal, Some, None, Ok, Err, sym, refl, ap, ◌∙◌, subst, arith, lit<, Bor, length-append, append-nil}
use Rattle.std.proofs.lemmas.List.{nil_from_length}
use mathlib.Core.List.Memᴰ
use mathlib.Core.List.{Memᴰ}
use Rattle.std.proofs.lemmas.Option.{none-some}
use Rattle.trace.specs.declared.event.Event.{Event}
use Rattle.trace.specs.Records.{record_of}
use Rattle.trace.proofs.Records.{record_means}
use Rattle.answer.specs.declared.fault.PairFault.TheVariants.{NoEvent}
use Rattle.answer.specs.declared.verdict.RacePair.{RacePair}
use Rattle.session.specs.Entries.{Outcome, enter_all}
use Rattle.session.specs.Questions.Answers.{refused}
use Rattle.session.specs.Races.{PartnersOf, RacingPair, pair}
use Rattle.session.proofs.Asked.{asked}
use Rattle.run.specs.declared.Call.{Call}
use Rattle.run.specs.declared.Call.TheVariants.{Enter, Load, Judge, Witness, Partners, Sweep}
use Rattle.run.specs.Runs.{Upholds}
use Rattle.report.specs.Reports.{pairs_line, RaceLines, SweepLines, Reported}
use Rattle.report.specs.Reports.RaceLines.{none, more}
use Rattle.report.specs.Texts.{events_line, refusal_line, After}
use Rattle.report.specs.declared.told.Finding.{Finding}
use Rattle.report.specs.declared.told.Finding.TheVariants.{Refused, Nothing}
use Rattle.report.specs.Refusals.{refused_record}
use Rattle.report.specs.Told.{AnswersTold, VerdictTold, FindsRaces}
use Rattle.report.specs.Told.AnswersTold.{refused as told_refused, answered as told_answered}
use Rattle.report.specs.Told.VerdictTold.{race as told_race, no_race as told_no_race}
use Rattle.report.specs.Told.FindsRaces.{race as finds_race, none as finds_none}
use Rattle.report.specs.Witnesses.{WitnessTold, found_among, PartnersTold}
use Rattle.report.specs.Witnesses.WitnessTold.{shown as told_shown, no_race as witness_no_race}
use Rattle.report.specs.Witnesses.PartnersTold.{refused as told_past, found as told_found}
use Rattle.replies.specs.Replies.{reply_line, reply_lines, told_lines}
use Rattle.cases.specs.Examples.{three_accesses}
use Rattle.cases.specs.Cases.{three_pairs}
use Rattle.cases.proofs.Sweeping.{three_swept}
use Rattle.relations.specs.Texts.{first, second, third, three_races, three_reported, cut_record, three_refusals, LineOfPair, AllLines, PairsReported, RecordsReported, CutReported, NothingReported, RefusalsAnswered, RecordsAnswered, RaceTold, WitnessShown, PartnersListed, RacesFound, LineTold, LineAlone}
use Rattle.relations.proofs.Racing.{least_shown}
use Rattle.relations.proofs.Partnering.{both_partners}
use Rattle.relations.proofs.Running.{empty_upheld}

no_line : RaceLines three_accesses (pair 0 1 ∷ []) [] → ⊥
no_line l = elim l [ ]

pub line_of_pair : LineOfPair
line_of_pair = (subst (λ s. RaceLines three_accesses (pair 0 1 ∷ []) s) (append-nil _) (more refl refl none), λ l. no_line l)

-- a text of no length has no lines
no_lines : (xs : List RacePair) (text : List ℕ) → RaceLines three_accesses xs text → length text ≡ 0 → (x : RacePair) → Memᴰ x xs → ⊥
no_lines xs text none e x m = Memᴰ.not-nil m
no_lines xs text (more i j l) e x m = omega arith

-- and so it is not one of all pairs
no_sweep_lines : (n : ℕ) (text : List ℕ) → SweepLines three_accesses n text → length text ≡ 0 → ⊥
no_sweep_lines n text h e =
    no_lines h.pairs text h.lines e (pair 0 1) ((h.all.exact 0 1).1 ((three_swept.0.exact 0 1).0 (Memᴰ.head refl)))

sweep_lines : SweepLines three_accesses 3 three_races
sweep_lines = record { pairs = three_pairs; all = three_swept.0; many = refl; lines = more refl refl (more refl refl (more refl refl none)) }

-- the read has one partner
first_partner : PartnersOf three_accesses 1 (0 ∷ [])
first_partner = record {
  ascending = (λ m i. absurd (Memᴰ.not-nil i), tt);
  exact = λ p. (
    λ m. subst (λ k. RacingPair three_accesses k 1) (sym (Memᴰ.eq_of_singleton m)) ((three_swept.0.exact 0 1).0 (Memᴰ.head refl)),
    λ r. let b = (asked three_accesses p 1 (sym r.0)).below in Memᴰ.head (omega arith),
  );
}

pub all_lines : AllLines
all_lines = (
  sweep_lines,
  λ h. no_sweep_lines 3 [] h refl,
  λ h. Memᴰ.not-nil (subst (Memᴰ (pair 0 1)) (nil_from_length h.pairs h.many) ((h.all.exact 0 1).1 ((three_swept.0.exact 0 1).0 (Memᴰ.head refl)))),
  record { partners = 0 ∷ []; all = first_partner; many = refl; lines = more refl refl none },
  λ h. no_partner_lines h.partners ((h.all.exact 0).1 ((first_partner.exact 0).0 (Memᴰ.head refl))) h.lines,
)
  where
    no_partner_lines : (ps : List ℕ) → Memᴰ 0 ps → RaceLines three_accesses (map (λ p. pair p 1) ps) [] → ⊥
    no_partner_lines [] m l = Memᴰ.not-nil m
    no_partner_lines (p ∷ ps) m l = no_lines (pair p 1 ∷ map (λ p. pair p 1) ps) [] l refl (pair p 1) (Memᴰ.head refl)

not_reported : Reported three_accesses (events_line 3) → ⊥
not_reported h =
    let i = ap length h.text_is ∙ length-append (events_line 3) (h.races ++ pairs_line h.count) in
    let l = length-append h.races (pairs_line h.count) in
    let m = length-append (codes "pairs ") (decimal h.count ++ codes "\n") in
    omega arith

pub pairs_reported : PairsReported
pairs_reported = (record { races = three_races; count = 3; all = sweep_lines; text_is = refl }, not_reported)

-- the records of the three accesses are taken
three_taken : enter_all 3 [] (record_of first ++ (record_of second ++ record_of third)) ≡ record { answer = Ok 3; events = three_accesses }
three_taken = rw (record_means first, record_means second, record_means third) refl

pub records_reported : RecordsReported
records_reported = (
  subst (λ (o : Outcome ℕ). After Reported o.answer o.events three_reported) (sym three_taken) pairs_reported.0,
  λ h. not_reported (subst (λ (o : Outcome ℕ). After Reported o.answer o.events (events_line 3)) three_taken h),
)

pub cut_reported : CutReported
cut_reported room = (refl, λ h. let e : events_line 0 ++ ([] ++ pairs_line 0) ≡ refusal_line cut_record = h in grind arith)

pub nothing_reported : NothingReported
nothing_reported room = (
  record { races = []; count = 0; all = record { pairs = []; all = record { in_order = tt; exact = no_pairs }; many = refl; lines = none }; text_is = refl },
  λ h. let e = h.text_is in grind arith,
)
  where
    no_pairs : (p q : ℕ) → Memᴰ (pair p q) [] ↔ RacingPair [] p q
    no_pairs p q = (λ m. absurd (Memᴰ.not-nil m), λ r. absurd (none-some 8 (sym r.0)))

pub refusals_answered : RefusalsAnswered
refusals_answered list = (
  record {
    unordered = Err NoEvent;
    schedulable = Err NoEvent;
    vet = Err NoEvent;
    unordered_is = refused refl;
    schedulable_is = refused refl;
    vet_is = refused refl;
    text_is = refl;
  },
  λ h. let e = h.text_is in grind arith,
)

pub records_answered : RecordsAnswered
records_answered room list = (
  told_refused refl (record {
    unordered = Err NoEvent;
    schedulable = Err NoEvent;
    vet = Err NoEvent;
    unordered_is = refused refl;
    schedulable_is = refused refl;
    vet_is = refused refl;
    text_is = refl;
  }),
  (refl, refl),
  λ h. let e : three_refusals ≡ refused_record room (1 ∷ []) cut_record = h.0 in grind arith,
  λ h. nothing h,
)
  where
    nothing : AnswersTold [] 0 1 list three_refusals Nothing → ⊥
    nothing (told_answered is a) = none-some 8 (sym is)

-- the first access and the third race
two_race : RacingPair three_accesses 0 2
two_race = (both_partners.0.exact 0).0 (Memᴰ.head refl)

pub race_told : RaceTold
race_told = (told_race two_race.0 two_race.1, no)
  where
    no : (text : List ℕ) → VerdictTold three_accesses 0 2 text Nothing → ⊥
    no text (told_no_race is apart) = apart two_race.1

pub witness_shown : WitnessShown
witness_shown = (
  told_shown refl least_shown.0 (λ k e at. (λ m. absurd (Memᴰ.not-nil m), λ x. absurd (none-some x.0 x.1))),
  no,
)
  where
    no : (text : List ℕ) → WitnessTold three_accesses 0 1 text Nothing → ⊥
    no text (witness_no_race is apart) = apart ([], least_shown.0.leaves)

-- what partners find is no refusal
found_no_refusal : (ps : List ℕ) → found_among ps ≡ Refused → ⊥
found_no_refusal [] e = cc
found_no_refusal (p ∷ ps) e = cc

pub partners_listed : PartnersListed
partners_listed = (told_found (lit< tt) both_partners.0, no)
  where
    no : (text : List ℕ) (f : Finding) → PartnersTold three_accesses 2 text f → f ≡ Refused → ⊥
    no text f (told_past past) e = omega arith
    no text f (told_found {ps} inside all) e = found_no_refusal ps e

pub races_found : RacesFound
races_found = (finds_race two_race, no)
  where
    no : FindsRaces three_accesses Nothing → ⊥
    no (finds_none apart) = apart 0 2 two_race

-- the text of one call is not empty
no_text : (room : ℕ) (w : Bor (List ℕ)) (ys : List Call) → Upholds room (Judge 0 1 None ∷ []) ys → [] ≡ told_lines (w ∷ []) ys → ⊥
no_text room w [] u e = let m = u.many in omega arith
no_text room w (y ∷ ys) u e = grind arith

pub line_told : LineTold
line_told room w = (
  record { back = Judge 0 1 (Some (Err NoEvent)) ∷ []; upheld = (empty_upheld room).0; text_is = refl },
  λ h. no_text room w h.back h.upheld h.text_is,
)

-- the line of a call is not empty
line_stands : (c : Call) (rest : List ℕ) → [] ≡ reply_line c ++ rest → ⊥
line_stands (Enter bytes None) rest e = grind arith
line_stands (Enter bytes (Some (Ok r))) rest e = grind arith
line_stands (Enter bytes (Some (Err r))) rest e = grind arith
line_stands (Load bytes None) rest e = grind arith
line_stands (Load bytes (Some (Ok r))) rest e = grind arith
line_stands (Load bytes (Some (Err r))) rest e = grind arith
line_stands (Judge p q None) rest e = grind arith
line_stands (Judge p q (Some (Ok r))) rest e = grind arith
line_stands (Judge p q (Some (Err r))) rest e = grind arith
line_stands (Witness p q buffer None) rest e = grind arith
line_stands (Witness p q buffer (Some (Ok r))) rest e = grind arith
line_stands (Witness p q buffer (Some (Err r))) rest e = grind arith
line_stands (Partners q buffer None) rest e = grind arith
line_stands (Partners q buffer (Some (Ok r))) rest e = grind arith
line_stands (Partners q buffer (Some (Err r))) rest e = grind arith
line_stands (Sweep buffer None) rest e = grind arith
line_stands (Sweep buffer (Some (Ok r))) rest e = grind arith
line_stands (Sweep buffer (Some (Err r))) rest e = grind arith

no_line_alone : (room : ℕ) (ys : List Call) → Upholds room (Judge 0 1 None ∷ []) ys → [] ≡ told_lines [] ys → ⊥
no_line_alone room [] u e = let m = u.many in omega arith
no_line_alone room (y ∷ ys) u e = line_stands y (reply_lines ys) e

pub line_alone : LineAlone
line_alone room = (
  record { back = Judge 0 1 (Some (Err NoEvent)) ∷ []; upheld = (empty_upheld room).0; text_is = refl },
  λ h. no_line_alone room h.back h.upheld h.text_is,
)
