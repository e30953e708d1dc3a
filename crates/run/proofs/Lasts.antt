-- What answered calls say of a pair lasts.
use Rattle.std.proofs.Common.{◌≡◌, ℕ, ◌<◌, ◌≤◌, List, ◌++◌, length, take, drop, Some, None, Ok, Err, vec_items, Result, Vec, sym, refl, subst, arith, lit≤}
use mathlib.Core.List.{Memᴰ}
use Rattle.std.specs.declared.alloc.Global.{Global}
use Rattle.std.proofs.lemmas.List.{take_at}
use Rattle.trace.specs.declared.event.Event.{Event}
use Rattle.trace.specs.Traces.{Admits}
use Rattle.trace.proofs.Events.{at_inside}
use Rattle.answer.specs.declared.verdict.Verdict.{Verdict}
use Rattle.answer.specs.declared.verdict.Verdict.TheVariants.{Race, NoRace}
use Rattle.answer.specs.declared.fault.PairFault.{PairFault}
use Rattle.answer.specs.declared.fault.PairFault.TheVariants.{NoEvent, Order, NoConflict}
use Rattle.answer.specs.declared.verdict.WitnessFault.{WitnessFault}
use Rattle.answer.specs.declared.verdict.PartnersFault.{PartnersFault}
use Rattle.run.specs.declared.Call.{Call}
use Rattle.run.specs.declared.Call.TheVariants.{Witness}
use Rattle.answer.specs.Buffers.{Filled}
use Rattle.answer.specs.Buffers.Filled.{whole, short}
use Rattle.answer.specs.Faults.{pair_number}
use Rattle.answer.specs.Verdicts.{witness_number}
use Rattle.session.specs.Questions.{pair_refusal}
use Rattle.session.specs.Races.{Races, RacingPair, Shows, Witnessed, PartnersOf, Partnered, pair}
use Rattle.session.specs.Races.Judged.{refused as judge_refused, race, no_race}
use Rattle.session.specs.Races.Witnessed.{refused as witness_refused, no_race as no_witness, written}
use Rattle.session.specs.Races.Partnered.{refused as partners_refused, written as partners_written}
use Rattle.run.specs.Runs.{Served, Says}
use Rattle.run.specs.Runs.Served.{entered, loaded, judged, witnessed, partnered, swept}
use Rattle.run.specs.Runs.Says.{by_judge, by_witness, by_long_witness, by_no_witness, by_partner, by_no_partner, by_sweep, by_no_sweep}
use Rattle.session.proofs.Asked.{asked}
use Rattle.run.proofs.Lasting.{racing_longer}

-- a verdict is right
abbrev pub Right : List Event → ℕ → ℕ → Verdict → Type 0
Right t p q Race = RacingPair t p q
Right t p q NoRace = RacingPair t p q → ⊥

-- a right verdict on two positions of the trace
pub record Decided (t : List Event) (p q : ℕ) (v : Verdict) : Type 0 where
  pub below : p < q
  pub inside : q < length t
  pub right : Right t p q v

-- a pair that can be asked about has two positions of the trace
decided : (t : List Event) (p q : ℕ) (v : Verdict) → pair_refusal t p q ≡ None → Right t p q v → Decided t p q v
decided t p q v none r =
    let a = asked t p q (sym none) in
    record { below = a.below; inside = at_inside t q a.second a.second_is; right = r }

-- what an answered buffer holds at its start is the list
filled_front : {A : Type 0} (list before : List A) (n : ℕ) (after : List A) → Filled list before (Ok n) after → take n after ≡ list
filled_front list before n after (whole h) = take_at list (drop (length list) before) (length list) refl

-- what Witness answered, by its answer
WitnessMeans : List Event → ℕ → ℕ → List ℕ → Result ℕ WitnessFault → Type 0
WitnessMeans t p q after (Ok n) = RacingPair t p q × Shows t p q (take n after)
WitnessMeans t p q after (Err f) =
    (witness_number f ≡ 11 → (pair_refusal t p q ≡ None) × (Races t p q → ⊥)) × (witness_number f ≡ 12 → RacingPair t p q)

-- no refusal of a pair is one of Witness alone
of_pairs : (f : PairFault) → pair_number f ≤ 10
of_pairs NoEvent = lit≤ tt
of_pairs Order = lit≤ tt
of_pairs NoConflict = lit≤ tt

witness_means : (t : List Event) (p q : ℕ) (before : List ℕ) (r : Result ℕ WitnessFault) (after : List ℕ) → Witnessed t p q (Shows t p q) before r after
    → WitnessMeans t p q after r
unfolding WitnessMeans
witness_means t p q before r after (witness_refused {f} h) = let few = of_pairs f in (λ is. absurd (omega arith), λ is. absurd (omega arith))
witness_means t p q before r after (no_witness n none apart) = (λ _. (none, apart), λ is. absurd (omega arith))
witness_means t p q before r after (written {ws} {r = Ok n} none races shows f) =
    ((none, races), subst (Shows t p q) (sym (filled_front ws before n after f)) shows)
witness_means t p q before r after (written none races shows (short n long)) = (λ is. absurd (omega arith), λ _. (none, races))

-- what Partners answered
PartnersMeans : List Event → ℕ → List ℕ → Result ℕ PartnersFault → Type 0
PartnersMeans t q after (Ok n) = (q < length t) × PartnersOf t q (take n after)
PartnersMeans t q after (Err f) = Unit {0}

partners_means : (t : List Event) (q : ℕ) (before : List ℕ) (r : Result ℕ PartnersFault) (after : List ℕ) → Partnered t q before r after → PartnersMeans t q after r
unfolding PartnersMeans
partners_means t q before r after (partners_refused n h) = tt
partners_means t q before r after (partners_written {ps} {r = Ok n} inside partners f) =
    (inside, subst (PartnersOf t q) (sym (filled_front ps before n after f)) partners)
partners_means t q before r after (partners_written {r = Err f} inside partners g) = tt

-- what an answered call says of a pair is right
pub says_right : (room : ℕ) (t : List Event) (p q : ℕ) (x y : Call) (v : Verdict) → Served room t x y → Says t p q y v → Decided t p q v
unfolding WitnessMeans PartnersMeans
says_right room t p q x y v (entered h) s = elim s [ ]
says_right room t p q x y v (loaded h) s = elim s [ ]
says_right room t p q x y v (judged (judge_refused h)) s = elim s [ ]
says_right room t p q x y v (judged (race none h)) by_judge = decided t p q Race none (none, h)
says_right room t p q x y v (judged (no_race none h)) by_judge = decided t p q NoRace none (λ r. h r.1)
says_right room t p q x y v (witnessed {before = b} {after = a} w) (by_witness {n = n}) =
    let m = witness_means t p q (vec_items b) (Ok n) (vec_items a) w in decided t p q Race m.0.0 m.0
says_right room t p q x y v (witnessed {before = b} {after = a} w) (by_long_witness {f = f} n) =
    let m = (witness_means t p q (vec_items b) (Err f) (vec_items a) w).1 n in decided t p q Race m.0 m
says_right room t p q x y v (witnessed {before = b} {after = a} w) (by_no_witness {f = f} n) =
    let m = (witness_means t p q (vec_items b) (Err f) (vec_items a) w).0 n in decided t p q NoRace m.0 (λ r. m.1 r.1)
says_right room t p q x y v (partnered {before = b} {after = a} w) (by_partner {n = n} i) =
    let m = partners_means t q (vec_items b) (Ok n) (vec_items a) w in
    let r = (m.1.exact p).0 i in
    decided t p q Race r.0 r
says_right room t p q x y v (partnered {before = b} {after = a} w) (by_no_partner {n = n} below out) =
    let m = partners_means t q (vec_items b) (Ok n) (vec_items a) w in
    record { below = below; inside = m.0; right = λ r. out ((m.1.exact p).1 r) }
says_right room t p q x y v (swept {before = b} {after = a} w) (by_sweep {n = n} i) =
    let same = filled_front w.pairs (vec_items b) n (vec_items a) w.written in
    let r = (w.all.exact p q).0 (subst (Memᴰ (pair p q)) same i) in
    decided t p q Race r.0 r
says_right room t p q x y v (swept {before = b} {after = a} w) (by_no_sweep {n = n} below inside out) =
    let same = filled_front w.pairs (vec_items b) n (vec_items a) w.written in
    record { below = below; inside = inside; right = λ r. out (subst (Memᴰ (pair p q)) (sym same) ((w.all.exact p q).1 r)) }

-- two right verdicts on a pair, in a trace and in a longer one, are the same
pub same_verdict : (t u : List Event) (p q : ℕ) (v w : Verdict) → Admits (t ++ u) → Decided t p q v → Decided (t ++ u) p q w → v ≡ w
same_verdict t u p q Race Race ok d e = refl
same_verdict t u p q NoRace NoRace ok d e = refl
same_verdict t u p q Race NoRace ok d e = absurd (e.right ((racing_longer t u p q ok d.below d.inside).0 d.right))
same_verdict t u p q NoRace Race ok d e = absurd (d.right ((racing_longer t u p q ok d.below d.inside).1 e.right))

-- an answered Witness shows a race
pub witness_answered : (room : ℕ) (t : List Event) (p q n : ℕ) (x : Call) (after : Vec ℕ Global) → Served room t x (Witness p q after (Some (Ok n)))
    → Decided t p q Race × Shows t p q (take n (vec_items after))
unfolding WitnessMeans
witness_answered room t p q n x after (witnessed {before = before} w) =
    let m = witness_means t p q (vec_items before) (Ok n) (vec_items after) w in (decided t p q Race m.0.0 m.0, m.1)
