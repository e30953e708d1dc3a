-- The racing pairs, one later position after another.
use Rattle.std.proofs.Common.{◌≡◌, ℕ, ◌+◌, ◌<◌, ◌↔◌, List, [], ◌∷◌, ◌++◌, map, length, sym, refl, ap, subst, inl, inr, ⊎_elim, arith}
use mathlib.Core.List.Memᴰ
use mathlib.Core.List.{Memᴰ}
use Rattle.std.proofs.lemmas.Bool.{cases_eq}
use Rattle.trace.specs.declared.event.Event.{Event}
use Rattle.trace.specs.Reorderings.{Ascending}
use Rattle.trace.proofs.Events.{at_inside}
use Rattle.answer.specs.declared.verdict.RacePair.{RacePair}
use Rattle.session.specs.Races.{RacingPair, PartnersOf, pair, StandsBefore, InOrder, SweepOf}
use Rattle.session.proofs.Asked.{asked}

-- the pairs of q with some positions
abbrev pub pairs_with : ℕ → List ℕ → List RacePair
pairs_with q ps = map (λ p. pair p q) ps

-- each of them is the pair of one of the positions
pub with_some : (q : ℕ) (ps : List ℕ) (y : RacePair) → Memᴰ y (pairs_with q ps) → (p : ℕ) × Memᴰ p ps × (y ≡ pair p q)
with_some q [] y m = absurd (Memᴰ.not-nil m)
with_some q (p ∷ ps) y m =
    ⊎_elim (λ e. (p, Memᴰ.head refl, e)) (λ n. let r = with_some q ps y n in (r.0, Memᴰ.tail r.1, r.2)) (Memᴰ.cases_cons m)

pub with_each : (q : ℕ) (ps : List ℕ) (p : ℕ) → Memᴰ p ps → Memᴰ (pair p q) (pairs_with q ps)
with_each q [] p m = absurd (Memᴰ.not-nil m)
with_each q (x ∷ ps) p m =
    ⊎_elim (λ e. Memᴰ.head (ap (λ (k : ℕ). pair k q) e)) (λ n. Memᴰ.tail (with_each q ps p n)) (Memᴰ.cases_cons m)

-- the pairs of q with ascending positions are in order
with_order : (q : ℕ) (ps : List ℕ) → Ascending ps → InOrder (pairs_with q ps)
with_order q [] a = tt
with_order q (p ∷ ps) a =
    (λ y m. let r = with_some q ps y m in subst (StandsBefore (pair p q)) (sym r.2) (inr (refl, a.0 r.0 r.1)), with_order q ps a.1)

-- lists in order, the first before the second
order_append : (xs ys : List RacePair) → InOrder xs → InOrder ys → ((x y : RacePair) → Memᴰ x xs → Memᴰ y ys → StandsBefore x y) → InOrder (xs ++ ys)
order_append [] ys a b less = b
order_append (x ∷ xs) ys a b less = (
  λ y m. ⊎_elim (a.0 y) (less x y (Memᴰ.head refl)) (Memᴰ.append_cases xs m),
  order_append xs ys a.1 b (λ u v i. less u v (Memᴰ.tail i)),
)

-- the racing pairs whose later position is below n
pub record SweepBelow (t : List Event) (n : ℕ) (xs : List RacePair) : Type 0 where
  pub in_order : InOrder xs
  pub exact : (p q : ℕ) → Memᴰ (pair p q) xs ↔ ((q < n) × RacingPair t p q)

module _ (t : List Event) where
  pub sweep_none : SweepBelow t 0 []
  sweep_none = record { in_order = tt; exact = λ p q. (λ m. absurd (Memᴰ.not-nil m), λ h. absurd (let z = h.0 in omega arith)) }

  -- one later position more
  pub sweep_more : {n : ℕ} {xs : List RacePair} {ps : List ℕ} → SweepBelow t n xs → PartnersOf t n ps → SweepBelow t (n + 1) (xs ++ pairs_with n ps)
  sweep_more {n} {xs} {ps} b partners = record {
    in_order = order_append xs (pairs_with n ps) b.in_order (with_order n ps partners.ascending)
        (λ x y i j. let r = with_some n ps y j in
        let less = ((b.exact x.first x.second).0 i).0 in
        subst (StandsBefore x) (sym r.2) (inl less));
    exact = λ p q. (
      λ m. ⊎_elim (λ i. let h = (b.exact p q).0 i in (let z = h.0 in omega arith, h.1))
          (λ i. let r = with_some n ps (pair p q) i in
          let pi : p ≡ r.0 = ap (λ (x : RacePair). x.first) r.2 in
          let qi : q ≡ n = ap (λ (x : RacePair). x.second) r.2 in
          (omega arith, subst (λ (k : ℕ). RacingPair t p k) (sym qi) (subst (λ (k : ℕ). RacingPair t k n) (sym pi) ((partners.exact r.0).0 r.1))))
          (Memᴰ.append_cases xs m),
      λ h. ⊎_elim
          (λ e. Memᴰ.append_right xs
          (subst (λ (k : ℕ). Memᴰ (pair p k) (pairs_with n ps)) (sym e)
          (with_each n ps p ((partners.exact p).1 (subst (λ (k : ℕ). RacingPair t p k) e h.1)))))
          (λ ne. Memᴰ.append_left (pairs_with n ps) ((b.exact p q).1 (let z = h.0 in omega arith, h.1))) (cases_eq q n),
    );
  }

  -- all later positions are passed
  pub sweep_all : {xs : List RacePair} → SweepBelow t (length t) xs → SweepOf t xs
  sweep_all b = record {
    in_order = b.in_order;
    exact = λ p q. (
      λ m. ((b.exact p q).0 m).1,
      λ h. (b.exact p q).1 (let a = asked t p q (sym h.0) in at_inside t q a.second a.second_is, h),
    );
  }
