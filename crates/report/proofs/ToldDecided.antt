-- The first records of a dump decide what is told of it.
use Rattle.std.proofs.Common.{◌≡◌, ℕ, ◌+◌, ◌*◌, ◌-◌, ◌≤◌, List, [], ◌∷◌, ◌++◌, length, take, drop, Some, None, Ok, Err, Option, Result, refl, ap, ◌∙◌, subst, ⊎_elim, arith, length-append, take-take}
use Rattle.std.proofs.lemmas.Bool.{cases_lt}
use Rattle.std.proofs.lemmas.List.{drop-take}
use Rattle.trace.specs.declared.event.Event.{Event}
use Rattle.trace.specs.Records.{meaning}
use Rattle.trace.specs.Traces.{standing_after, trace_refusal}
use Rattle.reel.specs.Reels.{reel_refusal}
use Rattle.answer.specs.Faults.{Refusal}
use Rattle.session.specs.Entries.{Outcome, checked, offered, records, record_count, enter_from, enter_all}
use Rattle.report.specs.declared.told.Finding.{Finding}
use Rattle.report.specs.Texts.{After}
use Rattle.report.specs.Reports.{Reported, ReportOf}
use Rattle.report.specs.Refusals.{record_at, refused_record}
use Rattle.report.specs.Told.{ToldAfter, ToldOf, ReportToldAfter, ReportToldOf}
use Rattle.report.proofs.Deciding.{deciding, no_more}

module _ (room : ℕ) where
  -- a refusal has the index of its record
  index_is : (t : List Event) (i : ℕ) (m : Result Event ℕ) (r : Refusal) → checked room t i m ≡ Err r → r.index ≡ i
  index_is t i (Err n) r is = grind arith
  index_is t i (Ok d) r is = by (trace_refusal (standing_after t) d) (reel_refusal room t) refl refl
    where
      by : (a b : Option ℕ) → trace_refusal (standing_after t) d ≡ a → reel_refusal room t ≡ b → r.index ≡ i
      by (Some n) b q s = let e = rw q at is in grind arith
      by None (Some n) q s = let e = rw (q, s) at is in grind arith
      by None None q s = let e = rw (q, s) at is in absurd (grind arith)

  -- so it is that of one of the records that there is room for, or of the next
  index_within : (t : List Event) (i : ℕ) (rs : List (List ℕ)) (r : Refusal) → length t ≡ i → i ≤ room → (enter_from room t i rs).answer ≡ Err r
      → r.index ≤ room
  index_within t i [] r long fits is = absurd (grind arith)
  index_within t i (x ∷ xs) r long fits is = by (offered room t i x) refl (λ e. index_within (t ++ (e ∷ [])) (i + 1) xs r)
    where
      by : (o : Result Event Refusal) → offered room t i x ≡ o
          → ((e : Event) → length (t ++ (e ∷ [])) ≡ i + 1 → i + 1 ≤ room → (enter_from room (t ++ (e ∷ [])) (i + 1) xs).answer ≡ Err r → r.index ≤ room)
          → r.index ≤ room
      by (Err f) q next = let e = rw q at is in let same : f ≡ r = cc in let n = index_is t i (meaning x) f q in rw (← same) (omega arith)
      by (Ok e) q next =
          ⊎_elim (λ below. next e (omega (arith, length-append t (e ∷ []))) (omega arith) (rw q at is))
          (λ past. absurd (no_more room t i (meaning x) e (omega arith) q)) (cases_lt i room)

module _ (room n : ℕ) (input : List ℕ) (enough : 8 * (room + 1) ≤ n) where
  -- the record is among the first bytes
  record_same : (i : ℕ) → i ≤ room → record_at (take n input) i ≡ record_at input i
  record_same i within =
      let rest : n ≡ 8 * i + (n - 8 * i) = omega arith in
      let tail : drop (8 * i) (take n input) ≡ take (n - 8 * i) (drop (8 * i) input) =
      ap (λ (m : ℕ). drop (8 * i) (take m input)) rest ∙ drop-take (8 * i) (n - 8 * i) input in
      ap (take 8) tail ∙ take-take 8 (n - 8 * i) (drop (8 * i) input) (omega arith)

  words_same : (r : Refusal) → (enter_all room [] input).answer ≡ Err r → refused_record room (take n input) r ≡ refused_record room input r
  words_same r is =
      let within = index_within room [] 0 (records (record_count input) input) r refl (omega arith) is in
      rw (record_same r.index within) refl

  pub told_decided : (says : List Event → List ℕ → Finding → Type 0) (text : List ℕ) (finding : Finding) → ToldOf room (take n input) says text finding
      → ToldOf room input says text finding
  told_decided says text finding told =
      by (enter_all room [] input).answer refl (subst (λ (o : Outcome ℕ). ToldAfter room (take n input) says o.answer o.events text finding)
      (deciding room n input enough) told)
    where
      by : (a : Result ℕ Refusal) → (enter_all room [] input).answer ≡ a
          → ToldAfter room (take n input) says (enter_all room [] input).answer (enter_all room [] input).events text finding → ToldOf room input says text finding
      by (Ok k) q told = rw q (rw q at told)
      by (Err r) q told = rw q (let made = rw q at told in (made.0 ∙ words_same r q, made.1))

  pub report_told_decided : (words : List ℕ) (finding : Finding) → ReportToldOf room (take n input) words finding → ReportToldOf room input words finding
  report_told_decided words finding told =
      by (enter_all room [] input).answer refl (subst (λ (o : Outcome ℕ). ReportToldAfter room (take n input) o.answer o.events words finding)
      (deciding room n input enough) told)
    where
      by : (a : Result ℕ Refusal) → (enter_all room [] input).answer ≡ a
          → ReportToldAfter room (take n input) (enter_all room [] input).answer (enter_all room [] input).events words finding → ReportToldOf room input words finding
      by (Ok k) q told = rw q (rw q at told)
      by (Err r) q told = rw q (let made = rw q at told in (made.0 ∙ words_same r q, made.1))

  -- the same of a report
  pub report_same : (text : List ℕ) → ReportOf room (take n input) text → ReportOf room input text
  report_same text made = subst (λ (o : Outcome ℕ). After Reported o.answer o.events text) (deciding room n input enough) made
