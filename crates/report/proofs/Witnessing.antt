-- What is told of a witness, and of partners, in a buffer as long as the trace.
use Rattle.std.proofs.Common.{◌≡◌, ℕ, ◌≤◌, List, length, take, drop, Ok, Err, Result, refl, arith, length-append}
use Rattle.std.proofs.lemmas.List.{take_at}
use Rattle.trace.specs.declared.event.Event.{Event}
use Rattle.trace.proofs.Events.{at_inside}
use Rattle.answer.specs.declared.fault.PairFault.TheVariants.{NoEvent, Order, NoConflict}
use Rattle.answer.specs.declared.collector.BufferFault.TheVariants.{Full}
use Rattle.answer.specs.declared.verdict.WitnessFault.{WitnessFault}
use Rattle.answer.specs.declared.verdict.WitnessFault.TheVariants.{Pair, NoRace, Buffer}
use Rattle.answer.specs.declared.verdict.PartnersFault.{PartnersFault}
use Rattle.answer.specs.Verdicts.{witness_number, partners_number}
use Rattle.answer.specs.Buffers.Filled.{whole, short}
use Rattle.session.specs.Races.{Shows, Witnessed, Partnered}
use Rattle.session.specs.Races.Witnessed.{refused, no_race, written}
use Rattle.session.specs.Races.Partnered.{refused as no_event, written as gathered}
use Rattle.report.specs.Refusals.{refused_question}
use Rattle.report.specs.Witnesses.{witness_text, finding_of, WitnessTold, partners_text, found_among, PartnersTold}
use Rattle.report.specs.Witnesses.WitnessTold.{refused as not_asked, no_race as not_racing, shown}
use Rattle.report.specs.Witnesses.PartnersTold.{refused as nowhere, found}
use Rattle.report.specs.declared.told.Finding.TheVariants.{Refused, Race as Found}
use Rattle.report.proofs.Gathered.{ascending_fits, partners_fit}
use Rattle.report.proofs.Runs.{runs_threads}

-- a witness that is answered stands at the start of the buffer
pub record Answered (t : List Event) (p q n : ℕ) (after : List ℕ) : Type 0 where
  pub within : n ≤ length after
  pub told : WitnessTold t p q (witness_text t (take n after)) Found

module _ {t : List Event} {p q : ℕ} where
  -- a witness is no longer than the trace
  witness_fits : {ws : List ℕ} → Shows t p q ws → length ws ≤ length t
  witness_fits {ws} s =
      let fits = ascending_fits 0 (length t) ws s.in_order
      (λ k i. let e = s.leaves.correct.in_trace k i in (omega arith, at_inside t k e.0 e.1)) in
      omega arith

  pub answered : {before after : List ℕ} {r : Result ℕ WitnessFault} {n : ℕ} → Witnessed t p q (Shows t p q) before r after → r ≡ Ok n → Answered t p q n after
  answered (refused is) e = absurd (grind arith)
  answered (no_race number can not) e = absurd (grind arith)
  answered {before} {n = n} (written {ws} can races shows (whole fits)) e =
      let many : length ws ≡ n = cc in
      let front = take_at ws (drop (length ws) before) (length ws) refl in
      rw (← many) (record {
        within = omega (arith, length-append ws (drop (length ws) before));
        told = rw front (shown can shows (runs_threads t _ ws shows.leaves shows.in_order));
      })
  answered (written can races shows (short full long)) e = absurd (grind arith)

  -- a refusal is one of the pair, or of a pair that does not race
  pub not_shown : {before after : List ℕ} {r : Result ℕ WitnessFault} {f : WitnessFault} → length t ≤ length before
      → Witnessed t p q (Shows t p q) before r after → r ≡ Err f → WitnessTold t p q (refused_question (length t) p q (witness_number f)) (finding_of f)
  not_shown {f = f} room (refused {f = g} is) e = let same : Pair g ≡ f = cc in rw (← same) (not_asked is)
  not_shown {f = f} room (no_race {f = g} number can not) e = let same : g ≡ f = cc in rw (← same) (by g number)
    where
      by : (f : WitnessFault) → witness_number f ≡ 11 → WitnessTold t p q (refused_question (length t) p q (witness_number f)) (finding_of f)
      by (Pair NoEvent) is = absurd (grind arith)
      by (Pair Order) is = absurd (grind arith)
      by (Pair NoConflict) is = absurd (grind arith)
      by NoRace is = not_racing can not
      by (Buffer Full) is = absurd (grind arith)
  not_shown room (written can races shows (whole fits)) e = absurd (grind arith)
  not_shown room (written can races shows (short full long)) e = absurd (let fits = witness_fits shows in omega arith)

module _ {t : List Event} {q : ℕ} where
  -- partners that are answered stand at the start of the buffer
  pub partners_answered : {before after : List ℕ} {r : Result ℕ PartnersFault} {n : ℕ} → Partnered t q before r after → r ≡ Ok n
      → (n ≤ length after) × PartnersTold t q (partners_text (take n after)) (found_among (take n after))
  partners_answered (no_event number past) e = absurd (grind arith)
  partners_answered {before} {n = n} (gathered {ps} inside all (whole fits)) e =
      let many : length ps ≡ n = cc in
      let front = take_at ps (drop (length ps) before) (length ps) refl in
      rw (← many) (omega (arith, length-append ps (drop (length ps) before)), rw front (found inside all))
  partners_answered (gathered inside all (short full long)) e = absurd (grind arith)

  -- a refusal says that there is no such event
  pub not_gathered : {before after : List ℕ} {r : Result ℕ PartnersFault} {f : PartnersFault} → length t ≤ length before
      → Partnered t q before r after → r ≡ Err f → PartnersTold t q (refused_question (length t) q q (partners_number f)) Refused
  not_gathered {f = f} room (no_event {f = g} number past) e = let same : g ≡ f = cc in rw (← same, number) (nowhere past)
  not_gathered room (gathered inside all (whole fits)) e = absurd (grind arith)
  not_gathered room (gathered inside all (short full long)) e = absurd (let fits = partners_fit all in omega arith)
