-- The sweep of the three accesses.
use Rattle.std.proofs.Common.{◌≡◌, ℕ, ◌<◌, List, [], ◌∷◌, length, take, Err, sym, refl, subst, inl, inr, ⊎_elim, arith, lit<}
use mathlib.Core.List.Memᴰ
use mathlib.Core.List.{Memᴰ}
use Rattle.std.proofs.lemmas.Bool.{cases_lt}
use Rattle.trace.specs.Traces.{Admits}
use Rattle.trace.proofs.Events.{at_inside}
use Rattle.answer.specs.declared.verdict.RacePair.{RacePair}
use Rattle.answer.specs.declared.collector.BufferFault.TheVariants.{Full}
use Rattle.answer.specs.Buffers.{Filled}
use Rattle.answer.specs.Buffers.Filled.{whole, short}
use Rattle.session.specs.Races.{pair, StandsBefore, RacingPair, SweepOf}
use Rattle.session.proofs.Asked.{asked}
use Rattle.cases.specs.Examples.{three_accesses}
use Rattle.cases.specs.Cases.{three_pairs, ThreeSwept}
use Rattle.cases.proofs.Asking.{races}

-- something holds of each of a list
abbrev Each : (RacePair → Type 0) → List RacePair → Type 0
Each P [] = Unit {0}
Each P (x ∷ xs) = P x × Each P xs

-- and so of its members
pub each : (P : RacePair → Type 0) (xs : List RacePair) → Each P xs → (y : RacePair) → Memᴰ y xs → P y
each P [] all y m = absurd (Memᴰ.not-nil m)
each P (x ∷ xs) all y (Memᴰ.head e) = subst P (sym e) all.0
each P (x ∷ xs) all y (Memᴰ.tail m) = each P xs all.1 y m

-- every pair of the three positions is there
every_pair : (p q : ℕ) → p < q → q < 3 → Memᴰ (pair p q) three_pairs
every_pair p q b c =
    ⊎_elim (λ h. let i : p ≡ 0 = omega arith in let j : q ≡ 1 = omega arith in Memᴰ.head (rw (i, j) refl))
    (λ h. let j : q ≡ 2 = omega arith in
    ⊎_elim (λ l. let i : p ≡ 0 = omega arith in Memᴰ.tail (Memᴰ.head (rw (i, j) refl)))
    (λ l. let i : p ≡ 1 = omega arith in Memᴰ.tail (Memᴰ.tail (Memᴰ.head (rw (i, j) refl)))) (cases_lt p 1))
    (cases_lt q 2)

pub three_admitted : Admits three_accesses
three_admitted = (refl, (refl, (refl, tt)))

-- the three pairs are the sweep
sweep : SweepOf three_accesses three_pairs
sweep = record {
  in_order = (
    each (StandsBefore (pair 0 1)) (pair 0 2 ∷ pair 1 2 ∷ []) (inl (lit< tt), (inl (lit< tt), tt)),
    (each (StandsBefore (pair 0 2)) (pair 1 2 ∷ []) (inr (refl, lit< tt), tt), (each (StandsBefore (pair 1 2)) [] tt, tt)),
  );
  exact = λ p q. (
    each (λ (x : RacePair). RacingPair three_accesses x.first x.second) three_pairs (
      (refl, races three_accesses 0 1 three_admitted refl [] refl refl),
      ((refl, races three_accesses 0 2 three_admitted refl [] refl refl), ((refl, races three_accesses 1 2 three_admitted refl [] refl refl), tt)),
    ) (pair p q),
    λ r. let a = asked three_accesses p q (sym r.0) in every_pair p q a.below (at_inside three_accesses q a.second a.second_is),
  );
}

-- a buffer of two has the first two when it is full
two_filled : (buffer : List RacePair) → length buffer ≡ 2 → Filled three_pairs buffer (Err Full) (pair 0 1 ∷ pair 0 2 ∷ [])
two_filled buffer two = subst (λ (n : ℕ). Filled three_pairs buffer (Err Full) (take n three_pairs)) two (short refl (rw two (lit< tt)))

pub three_swept : ThreeSwept
three_swept = (
  sweep,
  λ buffer enough. record { pairs = three_pairs; all = sweep; written = whole enough },
  (Full, λ buffer two. record { pairs = three_pairs; all = sweep; written = two_filled buffer two }, refl),
)
