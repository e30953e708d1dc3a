-- The examples of verdicts, answers and witnesses.
use Rattle.std.proofs.Common.{◌≡◌, ℕ, ◌<◌, ◌≤◌, Bool, true, false, List, [], ◌∷◌, ◌++◌, length, take, drop, Some, None, Ok, Err, Result, sym, refl, ◌∙◌, subst, arith, lit≤}
use mathlib.Core.List.Memᴰ
use mathlib.Core.List.{Memᴰ}
use Rattle.std.proofs.lemmas.Bool.{false≢true}
use Rattle.std.proofs.lemmas.Option.{none-some}
use Rattle.trace.specs.declared.event.Event.{Event}
use Rattle.trace.specs.Lookups.{previous_events}
use Rattle.trace.specs.Cuts.{In, Closure, SyncWants}
use Rattle.trace.specs.Reorderings.{Leaves}
use Rattle.trace.proofs.Closures.{closure_unique}
use Rattle.trace.proofs.Exact.{least}
use Rattle.trace.proofs.Seeds.{seeds_of}
use Rattle.predict.proofs.Tests.{is_earlier}
use Rattle.answer.specs.declared.collector.BufferFault.TheVariants.{Full}
use Rattle.answer.specs.declared.fault.PairFault.{PairFault}
use Rattle.answer.specs.declared.fault.PairFault.TheVariants.{Order}
use Rattle.answer.specs.declared.verdict.Verdict.{Verdict}
use Rattle.answer.specs.declared.verdict.Verdict.TheVariants.{Race, NoRace}
use Rattle.answer.specs.declared.verdict.WitnessFault.{WitnessFault}
use Rattle.answer.specs.declared.verdict.WitnessFault.TheVariants.{NoRace as NothingShown, Buffer}
use Rattle.answer.specs.Faults.{pair_number}
use Rattle.answer.specs.Buffers.{Filled}
use Rattle.answer.specs.Buffers.Filled.{whole}
use Rattle.session.specs.Questions.{pair_refusal, Answers, Unordered, Schedulable, Vetted}
use Rattle.session.specs.Questions.Answers.{refused as not_asked, answered}
use Rattle.session.specs.Races.{Races, Judged, Witness, Shows, Witnessed}
use Rattle.session.specs.Races.Judged.{refused, race, no_race}
use Rattle.session.specs.Races.Witnessed.{refused as witness_refused, no_race as no_witness, written as witness_written}
use Rattle.cases.specs.Examples.{sections_between, writes_locked, read_between, through_section, three_accesses}
use Rattle.cases.specs.Cases.{Judges, FindsSchedulable}
use Rattle.cases.proofs.Asking.{sync_closure, races, witness_leaves, schedulable_or_not}
use Rattle.cases.proofs.Closing.{with_earlier}
use Rattle.cases.proofs.Judging.{sections_admitted, chain_admitted, sections_race, sections_ordered, locked_no_race, read_no_race}
use Rattle.cases.proofs.Sweeping.{three_admitted}
use Rattle.cases.proofs.Vetting.{witness_vetted}
use Rattle.relations.specs.Races.{OtherVerdict, OtherAnswer, OtherRefusal, SchedulablePair, WitnessClosed, LeastShown, SectionShown, WitnessWritten}
use Rattle.relations.proofs.Buffering.{filled_collects, counted}

pub section_race : Races sections_between 0 5
section_race = races sections_between 0 5 sections_admitted refl (4 ∷ []) refl refl

-- no pair is judged both ways
pub two_verdicts : (t : List Event) (p q : ℕ) (holds : Type 0) → Judged t p q holds (Ok Race) → Judged t p q holds (Ok NoRace) → ⊥
two_verdicts t p q holds (race n h) (no_race m out) = out h

pub judged_race : Judges sections_between 0 5 NoRace → ⊥
judged_race j = two_verdicts sections_between 0 5 (Races sections_between 0 5) sections_race.0 j

pub other_verdict : OtherVerdict
other_verdict = (judged_race, λ j. two_verdicts writes_locked 1 4 (Races writes_locked 1 4) j locked_no_race.0)

-- no question is answered both ways
two_answers : (t : List Event) (p q : ℕ) (holds : Type 0) → Answers t p q holds (Ok true) → Answers t p q holds (Ok false) → ⊥
two_answers t p q holds (answered n f) (answered m g) = false≢true (g.1 (f.0 refl))

pub other_answer : OtherAnswer
other_answer = (
  λ a. two_answers read_between 0 3 (Unordered read_between 0 3) read_no_race.1 a,
  λ a. two_answers sections_between 0 5 (Unordered sections_between 0 5) a sections_ordered.0,
  λ a. two_answers read_between 0 3 (Schedulable read_between 0 3) a read_no_race.2,
  λ a. two_answers sections_between 0 5 (Vetted sections_between 0 5 (3 ∷ 4 ∷ [])) witness_vetted.0 a,
  λ a. two_answers sections_between 0 5 (Vetted sections_between 0 5 []) a witness_vetted.3,
)

-- a refusal has the number of the first check that fails, and what is answered is not refused
pub refused_by : (t : List Event) (p q : ℕ) (holds : Type 0) (f : PairFault) → Judged t p q holds (Err f) → pair_refusal t p q ≡ Some (pair_number f)
refused_by t p q holds f (refused h) = h

pub not_refused : (t : List Event) (p q : ℕ) (holds : Type 0) (v : Verdict) → Judged t p q holds (Ok v) → pair_refusal t p q ≡ None
not_refused t p q holds v (race none h) = none
not_refused t p q holds v (no_race none h) = none

question_refused : (t : List Event) (p q : ℕ) (holds : Type 0) (f : PairFault) → Answers t p q holds (Err f) → pair_refusal t p q ≡ Some (pair_number f)
question_refused t p q holds f (not_asked h) = h

question_asked : (t : List Event) (p q : ℕ) (holds : Type 0) (b : Bool) → Answers t p q holds (Ok b) → pair_refusal t p q ≡ None
question_asked t p q holds b (answered none h) = none

pub other_refusal : OtherRefusal
other_refusal = (
  λ j. let e = refused_by three_accesses 0 3 (Races three_accesses 0 3) Order j in grind arith,
  λ j. none-some 8 (sym (not_refused three_accesses 0 3 (Races three_accesses 0 3) NoRace j)),
  λ a. let e = question_refused three_accesses 0 3 (Unordered three_accesses 0 3) Order a in grind arith,
  λ a. none-some 8 (sym (question_asked three_accesses 0 3 (Unordered three_accesses 0 3) true a)),
)

pub schedulable_pair : SchedulablePair
schedulable_pair = (yes, λ a. two_answers through_section 1 4 (Schedulable through_section 1 4) yes a)
  where
    yes : FindsSchedulable through_section 1 4 true
    yes = schedulable_or_not through_section 1 4 chain_admitted refl 3 refl (3 ∷ []) refl true refl

pub witness_closed : WitnessClosed
witness_closed = ((_, closure, refl), longer)
  where
    closure : Closure SyncWants three_accesses (previous_events three_accesses (0 ∷ 1 ∷ [])) (with_earlier three_accesses [])
    closure = sync_closure three_accesses 0 1 three_admitted refl [] refl

    longer : Witness three_accesses 0 1 (2 ∷ []) → ⊥
    longer (c, other, is) =
        let same = closure_unique SyncWants three_accesses (previous_events three_accesses (0 ∷ 1 ∷ [])) c _ other closure in
        let e : ◌≡◌ {A = List ℕ} (2 ∷ []) [] = is ∙ rw (same 0, same 1, same 2) refl in grind arith

-- nothing comes first and leaves the first two enabled
none_leaves : Leaves three_accesses (0 ∷ 1 ∷ []) []
none_leaves = witness_leaves three_accesses 0 1 three_admitted refl [] refl refl

pub least_shown : LeastShown
least_shown = (
  record { leaves = none_leaves; in_order = tt; least = λ σ l. (λ k m. absurd (Memᴰ.not-nil m), omega arith) },
  λ s. Memᴰ.not-nil ((s.least [] none_leaves).0 2 (Memᴰ.head refl)),
)

section_is : Shows sections_between 0 5 (3 ∷ 4 ∷ [])
section_is =
    let ss = previous_events sections_between (0 ∷ 5 ∷ []) in
    let c = sync_closure sections_between 0 5 sections_admitted refl (4 ∷ []) refl in
    record {
      leaves = witness_leaves sections_between 0 5 sections_admitted refl (4 ∷ []) refl refl;
      in_order = (λ m i. let e = Memᴰ.eq_of_singleton i in omega arith, (λ m i. absurd (Memᴰ.not-nil i), tt));
      least = λ σ l.
          let h = least sections_between (0 ∷ 5 ∷ []) ss _ σ (seeds_of sections_between (0 ∷ 5 ∷ [])) c l in (λ k m. h.0 k (held_there k m), h.1);
    }
  where
    held_there : (k : ℕ) → Memᴰ k (3 ∷ 4 ∷ []) → In k (with_earlier sections_between (4 ∷ []))
    held_there k (Memᴰ.head e) = rw e refl
    held_there k (Memᴰ.tail m) = rw (Memᴰ.eq_of_singleton m) refl

pub section_shown : SectionShown
section_shown = (
  section_is,
  λ s. (s.leaves.enabled 0 (Memᴰ.head refl)).outside (Memᴰ.head refl),
  λ s.
      let m = (s.leaves.enabled 5 (Memᴰ.tail (Memᴰ.head refl))).ready 4 (is_earlier sections_between 4 5 refl) in
      let e = Memᴰ.eq_of_singleton m in omega arith,
  λ s. let b = s.in_order.0 3 (Memᴰ.head refl) in omega arith,
)

-- a list that is shown is no longer than the section
few : (ws : List ℕ) → Shows sections_between 0 5 ws → length ws ≤ 2
few ws s = (s.least (3 ∷ 4 ∷ []) section_is.leaves).1

-- what Witness answers of it
abbrev Answered : List ℕ → Result ℕ WitnessFault → List ℕ → Type 0
Answered before r after = Witnessed sections_between 0 5 (Shows sections_between 0 5) before r after

-- what is answered with a number was written
answered_by : (before : List ℕ) (r : Result ℕ WitnessFault) (after : List ℕ) → Answered before r after → (n : ℕ) → r ≡ Ok n
    → (ws : List ℕ) × Shows sections_between 0 5 ws × Filled ws before (Ok n) after
answered_by before r after (witness_refused h) n e = absurd (none-some _ h)
answered_by before r after (no_witness i h apart) n e = absurd (apart section_race)
answered_by before r after (witness_written {ws} {r = Ok m} h k s f) n e =
    let same : m ≡ n = grind arith in (ws, s, subst (λ k. Filled ws before (Ok k) after) same f)
answered_by before r after (witness_written {r = Err g} h k s f) n e = absurd (grind arith)

-- so it is the length of the section at most
counts_few : (before : List ℕ) (n : ℕ) (after : List ℕ) → Answered before (Ok n) after → n ≤ 2
counts_few before n after w =
    let (ws, s, f) = answered_by before (Ok n) after w n refl in
    let c = (counted ws before after (Ok n) f).0 n refl in
    let l = few ws s in omega arith

-- it is not refused with 11, and with 12 only where there are fewer places
fits_by : (before : List ℕ) (r : Result ℕ WitnessFault) (after : List ℕ) → Answered before r after
    → (r ≡ Err NothingShown → ⊥) × (r ≡ Err (Buffer Full) → length before < 2)
fits_by before r after (witness_refused h) = absurd (none-some _ h)
fits_by before r after (no_witness i h apart) = absurd (apart section_race)
fits_by before r after (witness_written {r = Ok m} h k s f) = (λ e. absurd (grind arith), λ e. absurd (grind arith))
fits_by before r after (witness_written {ws} {r = Err g} h k s f) = (
  λ e. absurd (grind arith),
  λ e. let c = (counted ws before after (Err g) f).1 g refl in let l = few ws s in omega arith,
)

-- no list that is shown starts with the earlier position
not_itself : (ws : List ℕ) → Shows sections_between 0 5 ws → 0 ∷ 4 ∷ 9 ∷ [] ≡ take 3 ws ++ drop (length ws) (9 ∷ 9 ∷ 9 ∷ []) → ⊥
not_itself [] s e = grind arith
not_itself (x ∷ ws) s e = let h : 0 ≡ x = grind arith in (s.leaves.enabled 0 (Memᴰ.head refl)).outside (Memᴰ.head h)

pub witness_fits : WitnessWritten
witness_fits = (
  witness_written {ws = 3 ∷ 4 ∷ []} {r = Ok 2} refl section_race section_is (whole (lit≤ tt)),
  λ w. let b = counts_few _ 5 _ w in omega arith,
  λ w.
      let (ws, s, f) = answered_by (9 ∷ 9 ∷ 9 ∷ []) (Ok 2) (0 ∷ 4 ∷ 9 ∷ []) w 2 refl in
      not_itself ws s (filled_collects ws (9 ∷ 9 ∷ 9 ∷ []) (0 ∷ 4 ∷ 9 ∷ []) (Ok 2) f).entries_are,
  λ after w. let b = counts_few _ 3 _ w in omega arith,
  λ after w. let b = (fits_by (9 ∷ 9 ∷ []) _ after w).1 refl in omega arith,
  λ after w. (fits_by (9 ∷ 9 ∷ []) _ after w).0 refl,
)
