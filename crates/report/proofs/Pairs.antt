-- The lines of racing pairs, one pair more at a time.
use Rattle.std.proofs.Common.{◌≡◌, ℕ, ◌+◌, ◌<◌, List, [], ◌∷◌, ◌++◌, map, length, get_or, take, Some, None, sym, refl, append_assoc, append-nil, arith}
use Rattle.std.specs.List.{slice_get}
use Rattle.std.proofs.lemmas.List.{map_more}
use Rattle.trace.specs.declared.event.Event.{Event}
use Rattle.reorder.proofs.Members.{in_list}
use Rattle.answer.specs.declared.verdict.RacePair.{RacePair}
use Rattle.session.specs.Races.{PartnersOf, pair}
use Rattle.session.proofs.Asked.{Asked, asked}
use Rattle.report.specs.Reports.{race_line, RaceLines}
use Rattle.report.specs.Reports.RaceLines.{none, more}

module _ (t : List Event) where
  -- the lines of some pairs, and then those of others
  pub lines_append : {xs ys : List RacePair} {a b : List ℕ} → RaceLines t xs a → RaceLines t ys b → RaceLines t (xs ++ ys) (a ++ b)
  lines_append none l = l
  lines_append {ys = ys} {b = b} (more {p} {q} {e} {f} {xs} {text} i j k) l =
      rw (append_assoc (race_line p q e f) text b) (more i j (lines_append k l))

  -- the line of one pair more
  lines_push : {xs : List RacePair} {text : List ℕ} (p q : ℕ) (e f : Event) → RaceLines t xs text → slice_get t p ≡ Some e → slice_get t q ≡ Some f
      → RaceLines t (xs ++ (pair p q ∷ [])) (text ++ race_line p q e f)
  lines_push p q e f l i j = rw (append-nil (race_line p q e f)) at (lines_append l (more i j none))

  module _ (q : ℕ) (ps : List ℕ) (partners : PartnersOf t q ps) where
    -- a partner and q have events
    partner_asked : (i : ℕ) → i < length ps → Asked t (get_or ps i 0) q
    partner_asked i inside = let p = get_or ps i 0 in asked t p q (sym ((partners.exact p).0 (in_list ps i inside)).0)

    -- so where q has none, there are no partners
    pub lines_nowhere : slice_get t q ≡ None → RaceLines t (map (λ p. pair p q) ps) []
    lines_nowhere missing = by ps refl
      where
        by : (xs : List ℕ) → ps ≡ xs → RaceLines t (map (λ p. pair p q) xs) []
        by [] is = none
        by (x ∷ xs) is =
            let a = partner_asked 0 (rw is (omega arith)) in
            let i = a.second_is in
            let z : ◌≡◌ {A = ℕ} 0 1 = cc in
            absurd (omega arith)

    -- the next partner has an event
    pub partner_event : (i p : ℕ) → i < length ps → p ≡ get_or ps i 0 → None ≡ slice_get t p → ⊥
    partner_event i p inside is missing =
        let a = partner_asked i inside in
        let first = rw (← is) at a.first_is in
        let z : ◌≡◌ {A = ℕ} 0 1 = cc in
        omega arith

    -- its line is one more
    pub partner_more : {text : List ℕ} (i p : ℕ) (e f : Event) → i < length ps → p ≡ get_or ps i 0 → Some e ≡ slice_get t p → Some f ≡ slice_get t q
        → RaceLines t (map (λ x. pair x q) (take i ps)) text → RaceLines t (map (λ x. pair x q) (take (i + 1) ps)) (text ++ race_line p q e f)
    partner_more i p e f inside is first second l =
        rw (map_more (λ x. pair x q) ps i 0 inside, ← is) (lines_push p q e f l (sym first) (sym second))
