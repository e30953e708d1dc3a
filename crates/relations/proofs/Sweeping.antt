-- The examples of sweeps.
use Rattle.std.proofs.Common.{◌≡◌, ℕ, ◌+◌, ◌<◌, ◌≤◌, ◌⊎◌, List, [], ◌∷◌, length, replicate, Ok, Err, sym, refl, ap, inl, inr, ⊎_elim, arith, lit<}
use mathlib.Core.List.Memᴰ
use mathlib.Core.List.{Memᴰ}
use Rattle.trace.proofs.Events.{at_inside}
use Rattle.answer.specs.declared.collector.BufferFault.TheVariants.{Full}
use Rattle.answer.specs.declared.verdict.RacePair.{RacePair}
use Rattle.session.specs.Races.{pair, StandsBefore, SweepOf}
use Rattle.session.proofs.Asked.{asked}
use Rattle.cases.specs.Examples.{three_accesses}
use Rattle.cases.proofs.Sweeping.{each, three_swept}
use Rattle.relations.specs.Races.{PairsInOrder, SweepWhole, SweepFits}
use Rattle.relations.proofs.Buffering.{counted}
use Rattle.relations.proofs.Partnering.{race_of}

pub pairs_in_order : PairsInOrder
pairs_in_order = (
  (each (StandsBefore (pair 1 2)) (pair 0 3 ∷ []) (inl (lit< tt), tt), (each (StandsBefore (pair 0 3)) [] tt, tt)),
  λ h. ⊎_elim (λ l. omega arith) (λ r. let e = r.1 in omega arith) (h.0 (pair 0 2) (Memᴰ.head refl)),
)

pub sweep_whole : SweepWhole
sweep_whole s = no ((s.exact 0 2).1 (race_of 0 (lit< tt)))
  where
    no : Memᴰ (pair 0 2) (pair 0 1 ∷ pair 1 2 ∷ []) → ⊥
    no (Memᴰ.head e) = grind arith
    no (Memᴰ.tail (Memᴰ.head e)) = grind arith
    no (Memᴰ.tail (Memᴰ.tail m)) = Memᴰ.not-nil m

-- both positions of a racing pair are among the three
record Within (x : RacePair) : Type 0 where
  apart : x.first < x.second
  inside : x.second < 3

within : (xs : List RacePair) → SweepOf three_accesses xs → (x : RacePair) → Memᴰ x xs → Within x
within xs s x m =
    let a = asked three_accesses x.first x.second (sym ((s.exact x.first x.second).0 m).0) in
    record { apart = a.below; inside = at_inside three_accesses x.second a.second a.second_is }

-- in order their sums grow
grows : (x y : RacePair) → Within x → Within y → StandsBefore x y → x.first + x.second < y.first + y.second
grows x y a b s =
    let i = a.apart in let j = a.inside in let k = b.apart in let l = b.inside in
    ⊎_elim (λ h. omega arith) (λ h. let e = h.0 in let f = h.1 in omega arith) s

-- so there are no more than three
at_most_three : (xs : List RacePair) → SweepOf three_accesses xs → length xs ≤ 3
at_most_three [] s = omega arith
at_most_three (x ∷ []) s = omega arith
at_most_three (x ∷ y ∷ []) s = omega arith
at_most_three (x ∷ y ∷ z ∷ []) s = omega arith
at_most_three (x ∷ y ∷ z ∷ w ∷ xs) s =
    let one = within _ s x (Memᴰ.head refl) in
    let two = within _ s y (Memᴰ.tail (Memᴰ.head refl)) in
    let three = within _ s z (Memᴰ.tail (Memᴰ.tail (Memᴰ.head refl))) in
    let four = within _ s w (Memᴰ.tail (Memᴰ.tail (Memᴰ.tail (Memᴰ.head refl)))) in
    let a = grows x y one two (s.in_order.0 y (Memᴰ.head refl)) in
    let b = grows y z two three (s.in_order.1.0 z (Memᴰ.head refl)) in
    let c = grows z w three four (s.in_order.1.1.0 w (Memᴰ.head refl)) in
    let i = one.apart in let j = four.apart in let k = four.inside in absurd (omega arith)

-- three sums are not two
two_sums : (a b : ℕ) → (1 ≡ a) ⊎ (1 ≡ b) → (2 ≡ a) ⊎ (2 ≡ b) → (3 ≡ a) ⊎ (3 ≡ b) → ⊥
two_sums a b (inl i) (inl j) k = omega arith
two_sums a b (inr i) (inr j) k = omega arith
two_sums a b (inl i) (inr j) (inl k) = omega arith
two_sums a b (inl i) (inr j) (inr k) = omega arith
two_sums a b (inr i) (inl j) (inl k) = omega arith
two_sums a b (inr i) (inl j) (inr k) = omega arith

-- the sum of a pair is that of one of two
one_of_two : (p q : ℕ) (x y : RacePair) → Memᴰ (pair p q) (x ∷ y ∷ []) → (p + q ≡ x.first + x.second) ⊎ (p + q ≡ y.first + y.second)
one_of_two p q x y (Memᴰ.head e) = inl (ap (λ (z : RacePair). z.first + z.second) e)
one_of_two p q x y (Memᴰ.tail m) = inr (ap (λ (z : RacePair). z.first + z.second) (Memᴰ.eq_of_singleton m))

-- so there are not two
not_two : (xs : List RacePair) → SweepOf three_accesses xs → length xs ≡ 2 → ⊥
not_two [] s l = omega arith
not_two (x ∷ []) s l = omega arith
not_two (x ∷ y ∷ []) s l =
    let pairs = three_swept.0.exact in
    two_sums (x.first + x.second) (y.first + y.second)
    (one_of_two 0 1 x y ((s.exact 0 1).1 ((pairs 0 1).0 (Memᴰ.head refl))))
    (one_of_two 0 2 x y ((s.exact 0 2).1 ((pairs 0 2).0 (Memᴰ.tail (Memᴰ.head refl)))))
    (one_of_two 1 2 x y ((s.exact 1 2).1 ((pairs 1 2).0 (Memᴰ.tail (Memᴰ.tail (Memᴰ.head refl))))))
not_two (x ∷ y ∷ z ∷ xs) s l = omega arith

pub sweep_fits : SweepFits
sweep_fits = (
  λ after s.
      let l = at_most_three s.pairs s.all in
      let h = (counted s.pairs (replicate 3 (pair 9 9)) after (Err Full) s.written).1 Full refl in omega arith,
  λ after s.
      let l = at_most_three s.pairs s.all in
      let h = (counted s.pairs (replicate 4 (pair 9 9)) after (Ok 4) s.written).0 4 refl in omega arith,
  λ after s. not_two s.pairs s.all (sym ((counted s.pairs (replicate 4 (pair 9 9)) after (Ok 2) s.written).0 2 refl)),
)
