-- One number is answered, and which it is on the examples.
use Rattle.std.proofs.Common.{◌≡◌, ℕ, false, List, [], ◌∷◌, Some, Ok, Err, Result, sym, refl, ◌∙◌, ap, arith}
use mathlib.Core.List.Memᴰ
use Rattle.std.proofs.lemmas.Bool.{false≢true}
use Rattle.trace.specs.declared.event.Event.{Event}
use Rattle.trace.specs.Faults.{told}
use Rattle.trace.specs.Cuts.{In, SyncWants}
use Rattle.trace.specs.Cuts.SyncWants.{of_threads, last_write, earlier_release}
use Rattle.trace.specs.Cuts.ThreadWants.{spawn, awaited_spawn, awaited_last}
use Rattle.trace.proofs.Exact.{exact}
use Rattle.trace.proofs.Growing.{empty_cut}
use Rattle.trace.proofs.Reached.{closure_from}
use Rattle.trace.proofs.Rules.{sync_laws}
use Rattle.trace.proofs.Seeds.{seeds_of}
use Rattle.answer.specs.declared.fault.PairFault.{PairFault}
use Rattle.answer.specs.declared.fault.PairFault.TheVariants.{NoEvent}
use Rattle.answer.specs.declared.verdict.Verdict.{Verdict}
use Rattle.answer.specs.declared.verdict.Verdict.TheVariants.{Race}
use Rattle.answer.specs.Faults.{pair_number}
use Rattle.session.specs.Races.{Races, Judged}
use Rattle.session.specs.Races.Judged.{refused, race, no_race}
use Rattle.host.specs.Hosts.{loaded, answer_number, HostAnswers}
use Rattle.host.specs.Hosts.HostAnswers.{not_loaded, judged}
use Rattle.host.specs.Examples.{two_records, EmptyDump, CutDump, RaceDump, OneAnswer}

-- what Judge answers is one number
one_verdict : (t : List Event) (p q : ℕ) (v w : Result Verdict PairFault) → Judged t p q (Races t p q) v → Judged t p q (Races t p q) w
    → told pair_number v ≡ told pair_number w
one_verdict t p q v w (refused {f} e) (refused {f = g} h) = ap Err (let i : Some (pair_number f) ≡ Some (pair_number g) = sym e ∙ h in grind arith)
one_verdict t p q v w (refused e) (race h r) = absurd (let i = sym e ∙ h in grind arith)
one_verdict t p q v w (refused e) (no_race h r) = absurd (let i = sym e ∙ h in grind arith)
one_verdict t p q v w (race e r) (refused h) = absurd (let i = sym e ∙ h in grind arith)
one_verdict t p q v w (race e r) (race h s) = refl
one_verdict t p q v w (race e r) (no_race h s) = absurd (s r)
one_verdict t p q v w (no_race e r) (refused h) = absurd (let i = sym e ∙ h in grind arith)
one_verdict t p q v w (no_race e r) (race h s) = absurd (r s)
one_verdict t p q v w (no_race e r) (no_race h s) = refl

pub one_answer : OneAnswer
one_answer dump p q m n (not_loaded {r} e) (not_loaded {r = s} h) = let i : Err r ≡ Err s = sym e ∙ h in let j : r ≡ s = grind arith in rw j refl
one_answer dump p q m n (not_loaded e) (judged h k) = absurd (let i = sym e ∙ h in grind arith)
one_answer dump p q m n (judged e k) (not_loaded h) = absurd (let i = sym e ∙ h in grind arith)
one_answer dump p q m n (judged {v = v} e k) (judged {v = w} h l) = ap answer_number (one_verdict (loaded dump).events p q v w k l)

pub empty_dump : EmptyDump
empty_dump = (is, λ n h. one_answer [] 0 1 n 108 h is)
  where
    is : HostAnswers [] 0 1 108
    is = judged {count = 0} {v = Err NoEvent} refl (refused refl)

pub cut_dump : CutDump
cut_dump = (is, λ h. let e = one_answer (1 ∷ []) 0 1 108 101 h is in omega arith)
  where
    is : HostAnswers (1 ∷ []) 0 1 101
    is = not_loaded refl

-- no event stands before the two, so they need none, and race
two_race : Races (loaded two_records).events 0 1
unfolding native.Mathlib.Decide.dec_lt
two_race =
    (exact t (0 ∷ 1 ∷ []) [] (λ k. false) (refl, (refl, tt)) (seeds_of t (0 ∷ 1 ∷ []))
    (closure_from SyncWants sync_laws t [] (λ k. false) (refl, (refl, tt)) (empty_cut t) wants_none (λ s m. absurd (Memᴰ.not-nil m))
    (λ k i. absurd (false≢true i)))).0 (λ e m i. absurd (false≢true i))
  where
    t : List Event
    t = (loaded two_records).events

    wants_none : (w : ℕ) → SyncWants t (λ k. false) w → In w (λ k. false)
    wants_none w (of_threads (spawn i s)) = absurd (false≢true i)
    wants_none w (of_threads (awaited_spawn i s)) = absurd (false≢true i)
    wants_none w (of_threads (awaited_last i l)) = absurd (false≢true i)
    wants_none w (last_write i l) = absurd (false≢true i)
    wants_none w (earlier_release i l h j k m n) = absurd (false≢true i)

pub race_dump : RaceDump
unfolding native.Mathlib.Decide.dec_lt
race_dump = (is, λ h. let e = one_answer two_records 0 1 0 1 h is in omega arith)
  where
    is : HostAnswers two_records 0 1 1
    is = judged {count = 2} {v = Ok Race} refl (race refl two_race)
