-- What closures say of two positions.
use Rattle.std.proofs.Common.{◌≡◌, ℕ, ◌<◌, Bool, true, ltb, ◌↔◌, List, [], ◌∷◌, Some, None, Option, sym, refl, ◌∙◌, subst, inl, inr, ⊎_elim, arith}
use mathlib.Core.List.Memᴰ
use Rattle.std.specs.List.{slice_get}
use Rattle.std.proofs.lemmas.Bool.{cases_Bool, ltb-true, true≢false}
use Rattle.trace.specs.declared.event.Event.{Event}
use Rattle.trace.specs.Traces.{At, Previous}
use Rattle.trace.specs.Traces.Previous.{in_thread, by_spawn}
use Rattle.trace.specs.Conflicts.{conflict}
use Rattle.trace.specs.Lookups.{previous}
use Rattle.trace.specs.Orders.{SchedulableHappensBefore}
use Rattle.trace.specs.Cuts.{In, Wants, Closure, SchedulableWants}
use Rattle.trace.proofs.Events.{at_inside}
use Rattle.trace.proofs.Lookups.{previous_found}
use Rattle.trace.proofs.Closures.{closure_unique}
use Rattle.predict.specs.Held.{held, lacks, SeedsWithin}
use Rattle.predict.proofs.Inside.{lacks_outside, lacks_inside}
use Rattle.session.specs.Questions.{refusal_of, pair_refusal, Outside, Schedulable, NotScheduledBefore}

-- a pair past its checks has two events
pub record Asked (t : List Event) (p q : ℕ) : Type 0 where
  pub first : Event
  pub second : Event
  pub first_is : At t p first
  pub second_is : At t q second
  pub below : p < q
  pub conflicting : conflict first second ≡ true

pub asked : (t : List Event) (p q : ℕ) → None ≡ pair_refusal t p q → Asked t p q
asked t p q is = by (slice_get t p) (slice_get t q) refl refl is
  where
    by : (e f : Option Event) → slice_get t p ≡ e → slice_get t q ≡ f → None ≡ refusal_of p q e f → Asked t p q
    by None f i j none = absurd (grind arith)
    by (Some e) None i j none = absurd (grind arith)
    by (Some e) (Some f) i j none =
        ⊎_elim (λ lt. ⊎_elim (λ con. record { first = e; second = f; first_is = i; second_is = j; below = ltb-true p q lt; conflicting = con })
        (λ con. absurd (let r = rw (lt, con) at none in grind arith)) (cases_Bool (conflict e f)))
        (λ lt. absurd (let r = rw lt at none in grind arith)) (cases_Bool (ltb p q))

-- a lone seed of the trace
pub seed_within : (t : List Event) (q : ℕ) (e : Event) → At t q e → SeedsWithin t (q ∷ [])
seed_within t q e is s m = ⊎_elim (λ i. let h = at_inside t q e is in omega arith) (λ n. absurd (Memᴰ.not-nil n)) (Memᴰ.cases_cons m)

module _ (t : List Event) (bounds : List ℕ) (p : ℕ) (e : Event) (is : At t p e) (b : Bool) (b-is : b ≡ lacks t bounds p) where
  -- b says whether p is outside the cut below the bounds
  pub lacks_not : (b ≡ true) ↔ (In p (held t bounds) → ⊥)
  lacks_not = (
    λ yes held-p. let o = lacks_outside t bounds p (sym b-is ∙ yes) in true≢false (sym held-p ∙ o.not_held),
    λ not_held. ⊎_elim (λ yes. yes) (λ not. absurd (not_held (lacks_inside t bounds p e is (sym b-is ∙ not)))) (cases_Bool b),
  )

  -- and so outside the closure, if that is the cut
  pub outside_by : (wants : Wants) (seeds : List ℕ) → Closure wants t seeds (held t bounds) → (b ≡ true) ↔ Outside wants t seeds p
  outside_by wants seeds cl = (
    λ yes. (held t bounds, cl, lacks_not.0 yes),
    λ o. lacks_not.1 (λ h. o.2 (closure_unique wants t seeds o.0 (held t bounds) o.1 cl p ∙ h)),
  )

-- the same test by a relation that says what the cut has
pub not_by : {A B C : Type 0} → A ↔ (B → ⊥) → B ↔ C → A ↔ (C → ⊥)
not_by ab bc = (λ a c. ab.0 a (bc.1 c), λ n. ab.1 (λ b. n (bc.0 b)))

-- a previous event comes before
pub previous_before : {t : List Event} {k d : ℕ} → Previous t k d → d < k
previous_before {t} {k} {d} (in_thread h none) = h.before
previous_before {t} {k} {d} (by_spawn h none none_later) = h.before

-- the previous event that is found is the one that there is
module _ (t : List Event) (q d : ℕ) (is : Some d ≡ previous t q) where
  pub previous_is : Previous t q d
  previous_is = ((previous_found t q).0 d).0 (sym is)

  pub previous_only : (m : ℕ) → Previous t q m → m ≡ d
  previous_only m h = let i = ((previous_found t q).0 m).1 h in let e : ◌≡◌ {A = Option ℕ} (Some m) (Some d) = sym i ∙ sym is in cc

  -- it stands in the trace
  pub previous_within : SeedsWithin t (d ∷ [])
  previous_within = within previous_is
    where
      within : Previous t q d → SeedsWithin t (d ∷ [])
      within (in_thread h none) = seed_within t d h.first h.first_is
      within (by_spawn h none none_later) = seed_within t d h.spawn h.spawn_is

-- and where none is found there is none
pub previous_none : (t : List Event) (q : ℕ) → None ≡ previous t q → (m : ℕ) → Previous t q m → ⊥
previous_none t q is = (previous_found t q).1.0 (sym is)

module _ (t : List Event) (p q : ℕ) where
  -- the question of schedulable happens-before where q has no previous event
  pub scheduled_first : None ≡ previous t q → ((true ≡ true) ↔ Schedulable t p q) × ((true ≡ true) ↔ NotScheduledBefore t p q)
  scheduled_first none =
      ((λ _. inl (previous_none t q none), λ _. refl), (λ _ d h. absurd (previous_none t q none d h), λ _. refl))

  -- and where it has one
  module _ (b : Bool) (d : ℕ) (is : Some d ≡ previous t q) where
    pub scheduled_by : (b ≡ true) ↔ Outside SchedulableWants t (d ∷ []) p → (b ≡ true) ↔ Schedulable t p q
    scheduled_by by = (
      λ yes. inr (d, previous_is t q d is, by.0 yes),
      ⊎_elim (λ none. absurd (none d (previous_is t q d is)))
          (λ o. by.1 (subst (λ (m : ℕ). Outside SchedulableWants t (m ∷ []) p) (previous_only t q d is o.0 o.1) o.2)),
    )

    pub not_scheduled_by : (b ≡ true) ↔ (SchedulableHappensBefore t p d → ⊥) → (b ≡ true) ↔ NotScheduledBefore t p q
    not_scheduled_by by = (
      λ yes m h k. by.0 yes (subst (λ (n : ℕ). SchedulableHappensBefore t p n) (previous_only t q d is m h) k),
      λ n. by.1 (n d (previous_is t q d is)),
    )
