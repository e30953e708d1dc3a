-- The partners of a position, one earlier position after another.
use Rattle.std.proofs.Common.{◌≡◌, ℕ, ◌+◌, ◌<◌, ◌≤◌, ◌↔◌, List, [], ◌∷◌, ◌++◌, map, length, sym, refl, ap, subst, ⊎_elim, arith}
use mathlib.Core.List.Memᴰ
use mathlib.Core.List.{map-append, Memᴰ}
use Rattle.std.proofs.lemmas.Bool.{cases_eq}
use Rattle.trace.specs.declared.event.Event.{Event}
use Rattle.trace.specs.Reorderings.{Ascending}
use Rattle.trace.proofs.Events.{at_inside}
use Rattle.trace.proofs.Ascending.{ascending_push}
use Rattle.answer.specs.declared.collector.Collector.{Collector}
use Rattle.answer.specs.Collectors.{Adds}
use Rattle.answer.proofs.Collecting.{adds_both}
use Rattle.session.specs.Races.{RacingPair, PartnersOf}
use Rattle.session.proofs.Asked.{asked}

-- the partners of q below n
pub record PartnersBelow (t : List Event) (q n : ℕ) (ps : List ℕ) : Type 0 where
  pub ascending : Ascending ps
  pub exact : (p : ℕ) → Memᴰ p ps ↔ ((p < n) × RacingPair t p q)

module _ (t : List Event) (q : ℕ) where
  pub partners_none : PartnersBelow t q 0 []
  partners_none = record { ascending = tt; exact = λ p. (λ m. absurd (Memᴰ.not-nil m), λ h. absurd (let z = h.0 in omega arith)) }

  module _ {n : ℕ} {ps : List ℕ} (b : PartnersBelow t q n ps) where
    -- one position more races
    pub partners_more : RacingPair t n q → PartnersBelow t q (n + 1) (ps ++ (n ∷ []))
    partners_more racing = record {
      ascending = ascending_push ps n b.ascending (λ m i. ((b.exact m).0 i).0);
      exact = λ p. (
        λ m. ⊎_elim (λ i. let h = (b.exact p).0 i in (let z = h.0 in omega arith, h.1))
            (λ i. let e = Memᴰ.eq_of_singleton i in (omega arith, subst (λ (k : ℕ). RacingPair t k q) (sym e) racing)) (Memᴰ.append_cases ps m),
        λ h. ⊎_elim (λ e. Memᴰ.append_right ps (Memᴰ.head e))
            (λ ne. Memᴰ.append_left (n ∷ []) ((b.exact p).1 (let z = h.0 in omega arith, h.1))) (cases_eq p n),
      );
    }

    -- or it does not
    pub partners_skip : (RacingPair t n q → ⊥) → PartnersBelow t q (n + 1) ps
    partners_skip apart = record {
      ascending = b.ascending;
      exact = λ p. (
        λ m. let h = (b.exact p).0 m in (let z = h.0 in omega arith, h.1),
        λ h. ⊎_elim (λ e. absurd (apart (subst (λ (k : ℕ). RacingPair t k q) e h.1))) (λ ne. (b.exact p).1 (let z = h.0 in omega arith, h.1)) (cases_eq p n),
      );
    }

  -- all positions below q are passed: a partner stands below q
  pub partners_all : {ps : List ℕ} → PartnersBelow t q q ps → PartnersOf t q ps
  partners_all b = record {
    ascending = b.ascending;
    exact = λ p. (λ m. ((b.exact p).0 m).1, λ h. (b.exact p).1 ((asked t p q (sym h.0)).below, h));
  }

  -- a position beyond the trace has none
  pub partners_beyond : length t ≤ q → PartnersOf t q []
  partners_beyond past = record {
    ascending = tt;
    exact = λ p. (
      λ m. absurd (Memᴰ.not-nil m),
      λ h. absurd (let a = asked t p q (sym h.0) in let i = at_inside t q a.second a.second_is in omega arith),
    );
  }

-- the entry of one position more is added
pub entries_more : {A : Type 0} (f : ℕ → A) {old now new : Collector A} (ps : List ℕ) (n : ℕ) (x : A) → x ≡ f n → Adds (map f ps) old now
    → Adds (x ∷ []) now new → Adds (map f (ps ++ (n ∷ []))) old new
entries_more f ps n x is a one = rw (map-append f ps (n ∷ []), ← is) (adds_both a (x ∷ []) one)

-- positions are entries as they are
pub map_same : (ps : List ℕ) → map (λ p. p) ps ≡ ps
map_same [] = refl
map_same (p ∷ ps) = ap (λ (xs : List ℕ). p ∷ xs) (map_same ps)
