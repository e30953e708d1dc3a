-- What the sync closure of the previous events of a pair says of its races.
use Rattle.std.proofs.Common.{◌≡◌, ℕ, ◌<◌, ◌↔◌, List, [], ◌∷◌, length, Some, None, refl, ◌∙◌, subst, ⊎_elim, arith}
use mathlib.Core.List.Memᴰ
use mathlib.Core.List.{Memᴰ}
use Rattle.trace.specs.declared.event.Event.{Event}
use Rattle.trace.specs.Traces.{Admits}
use Rattle.trace.specs.Lookups.{previous_events}
use Rattle.trace.specs.Cuts.{Positions, In, Closure, SyncWants, listed}
use Rattle.trace.specs.SyncTheorems.{Apart}
use Rattle.trace.proofs.Seeds.{seeds_of}
use Rattle.trace.proofs.Closures.{closure_bounded, closure_unique}
use Rattle.trace.proofs.Rules.{sync_laws}
use Rattle.trace.specs.Reorderings.{Leaves}
use Rattle.trace.proofs.Contains.{contains}
use Rattle.trace.proofs.Listing.{listed_within, listed_ascending}
use Rattle.trace.proofs.Exact.{exact, realized, least}
use Rattle.predict.specs.declared.cut.Cut.{Cut}
use Rattle.predict.specs.Held.{held}
use Rattle.session.specs.Questions.{pair_refusal}
use Rattle.session.specs.Races.{Races, OutsideSync, FoundRace, Shows}
use Rattle.session.proofs.Asked.{asked, previous_before}

module _ (t : List Event) (p q : ℕ) (admitted : Admits t) (below : p < q) (c : Positions)
    (closure : Closure SyncWants t (previous_events t (p ∷ q ∷ [])) c) where
  -- the closure stands before q
  q_outside : In q c → ⊥
  q_outside in-q =
      let b = closure_bounded SyncWants sync_laws t (previous_events t (p ∷ q ∷ [])) c admitted closure q in-q in
      let s = (seeds_of t (p ∷ q ∷ [])).sound b.0 b.1 in
      let e = previous_before s.2 in
      ⊎_elim (λ i. absurd (omega arith)) (λ m. ⊎_elim (λ i. absurd (omega arith)) (λ n. absurd (Memᴰ.not-nil n)) (Memᴰ.cases_cons m))
      (Memᴰ.cases_cons s.1)

  -- so it is enough to look for p
  pub apart : (In p c → ⊥) → Apart (p ∷ q ∷ []) c
  apart not-p e m in_e =
      ⊎_elim (λ i. not-p (subst (λ (k : ℕ). In k c) i in_e))
      (λ n. ⊎_elim (λ i. q_outside (subst (λ (k : ℕ). In k c) i in_e)) (λ o. absurd (Memᴰ.not-nil o)) (Memᴰ.cases_cons n))
      (Memᴰ.cases_cons m)

  -- the pair races exactly when p is outside
  pub races_by : (In p c → ⊥) ↔ Races t p q
  races_by =
      let e = exact t (p ∷ q ∷ []) (previous_events t (p ∷ q ∷ [])) c admitted (seeds_of t (p ∷ q ∷ [])) closure in
      (λ not-p. e.0 (apart not-p), λ r. e.1 r p (Memᴰ.head refl))

-- where a race is found, and where none is
module _ (t : List Event) (p q : ℕ) (admitted : Admits t) (none : None ≡ pair_refusal t p q) where
  pub found_race : (cut : Cut) → FoundRace t p q (Some cut) → OutsideSync t p q × Races t p q
  found_race cut f =
      ((held t cut.bounds, f.0, f.1), (races_by t p q admitted (asked t p q none).below (held t cut.bounds) f.0).0 f.1)

  pub found_none : FoundRace t p q None → (OutsideSync t p q → ⊥) × (Races t p q → ⊥)
  found_none f = (
    λ o. o.2 (closure_unique SyncWants t (previous_events t (p ∷ q ∷ [])) o.0 f.0 o.1 f.1 p ∙ f.2),
    λ r. (races_by t p q admitted (asked t p q none).below f.0 f.1).1 r f.2,
  )

  -- the listing of the closure is a witness
  pub found_shows : (cut : Cut) → FoundRace t p q (Some cut) → Shows t p q (listed (held t cut.bounds) (length t))
  found_shows cut f =
      let ss = previous_events t (p ∷ q ∷ []) in
      let c = held t cut.bounds in
      record {
        leaves = realized t (p ∷ q ∷ []) ss c admitted (seeds_of t (p ∷ q ∷ [])) f.0 (apart t p q admitted (asked t p q none).below c f.0 f.1);
        in_order = listed_ascending c (length t);
        least = λ σ l. let r = least t (p ∷ q ∷ []) ss c σ (seeds_of t (p ∷ q ∷ [])) f.0 l in (λ k m. r.0 k (listed_within c (length t) k m).0, r.1);
      }

-- the closure of the previous event of q alone
module _ (t : List Event) (p q : ℕ) where
  -- its seeds are among those of the pair
  pub fewer_seeds : (s : ℕ) → Memᴰ s (previous_events t (q ∷ [])) → Memᴰ s (previous_events t (p ∷ q ∷ []))
  fewer_seeds s m =
      let h = (seeds_of t (q ∷ [])).sound s m in
      (seeds_of t (p ∷ q ∷ [])).complete h.0 s (Memᴰ.tail h.1) h.2

  -- a pair does not race if p is in it
  pub base_inside : (c : Positions) → Closure SyncWants t (previous_events t (q ∷ [])) c → In p c → Races t p q → ⊥
  base_inside c closure in_p r =
      let leaves : Leaves t (q ∷ []) r.0 = record { correct = r.1.correct; sync = r.1.sync; enabled = λ e m. r.1.enabled e (Memᴰ.tail m) } in
      (r.1.enabled p (Memᴰ.head refl)).outside (contains t (q ∷ []) (previous_events t (q ∷ [])) c r.0 (seeds_of t (q ∷ [])) closure leaves p in_p)
