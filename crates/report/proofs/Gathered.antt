-- The partners of a position, gathered in a buffer as long as the trace.
use Rattle.std.proofs.Common.{◌≡◌, ℕ, ◌+◌, ◌-◌, ◌<◌, ◌≤◌, List, [], ◌∷◌, length, take, drop, Option, Some, None, Ok, Err, Result, unwrap_or, sym, refl, ◌∙◌, subst, arith, length-append, Bor}
use mathlib.Core.List.{Memᴰ}
use Rattle.std.specs.Slice.{IsGetRangeResult}
use Rattle.std.proofs.lemmas.List.{take_at}
use Rattle.trace.specs.declared.event.Event.{Event}
use Rattle.trace.specs.Reorderings.{Ascending}
use Rattle.trace.proofs.Events.{at_inside}
use Rattle.answer.specs.declared.verdict.PartnersFault.{PartnersFault}
use Rattle.answer.specs.Buffers.Filled.{whole, short}
use Rattle.session.specs.Races.{PartnersOf, Partnered}
use Rattle.session.specs.Races.Partnered.{refused, written}
use Rattle.session.proofs.Asked.{asked}

-- an ascending list of numbers from m on and below n has n - m members at most
pub ascending_fits : (m n : ℕ) (xs : List ℕ) → Ascending xs → ((k : ℕ) → Memᴰ k xs → (m ≤ k) × (k < n)) → length xs ≤ n - m
ascending_fits m n [] a between = omega arith
ascending_fits m n (x ∷ xs) a between =
    let rest = ascending_fits (x + 1) n xs a.1 (λ k i. (let l = a.0 k i in omega arith, (between k (Memᴰ.tail i)).1)) in
    let here = between x (Memᴰ.head refl) in
    omega (arith, here.0, here.1)

module _ {t : List Event} {q : ℕ} where
  -- so the trace has at least as many events as q has partners
  pub partners_fit : {ps : List ℕ} → PartnersOf t q ps → length ps ≤ length t
  partners_fit {ps} partners =
      let short = ascending_fits 0 (length t) ps partners.ascending
      (λ p i. let a = asked t p q (sym ((partners.exact p).0 i).0) in (omega arith, at_inside t p a.first a.first_is)) in
      omega arith

  -- then Partners of a position of the trace is answered, and the first entries, as many as it says, are the partners
  module _ (inside : q < length t) where
    answered : {before after : List ℕ} {r : Result ℕ PartnersFault} → length t ≤ length before → Partnered t q before r after
        → (n : ℕ) × (r ≡ Ok n) × (n ≤ length after) × PartnersOf t q (take n after)
    answered places (refused n past) = absurd (omega arith)
    answered {before} places (written {ps} i partners (whole fits)) = (
      length ps,
      refl,
      omega (arith, length-append ps (drop (length ps) before)),
      rw (take_at ps (drop (length ps) before) (length ps) refl) partners,
    )
    answered places (written i partners (short full long)) = absurd (let fits = partners_fit partners in omega arith)

    module _ {before after : List ℕ} {r : Result ℕ PartnersFault} (places : length t ≤ length before) (partnered : Partnered t q before r after) where
      pub not_refused : (f : PartnersFault) → r ≡ Err f → ⊥
      not_refused f is = let (n, ok, within, partners) = answered places partnered in absurd (let z = sym ok ∙ is in grind arith)

      pub gathered : (m : ℕ) → r ≡ Ok m → (m ≤ length after) × PartnersOf t q (take m after)
      gathered m is =
          let (n, ok, within, partners) = answered places partnered in
          let same : n ≡ m = grind arith in
          (omega arith, subst (λ (k : ℕ). PartnersOf t q (take k after)) same partners)

-- a part from the start of a list
pub front_part : (xs : List ℕ) (n : ℕ) (o : Option (Bor (List ℕ))) (d : Bor (List ℕ)) → IsGetRangeResult xs 0 n o → n ≤ length xs → (unwrap_or o d).now ≡ take n xs
front_part xs n None d part inside = let z = part.1 (omega arith, inside) in absurd (grind arith)
front_part xs n (Some x) d part inside = let all : n - 0 ≡ n = omega arith in part.0.2 ∙ rw all refl
