-- What the tests of a position tell: whether its event is outside the cut, or inside and of some sort.
use Rattle.std.proofs.Common.{◌≡◌, ℕ, Bool, true, false, not, ◌&&◌, List, ◌∷◌, drop, Some, None, Option, sym, refl, ap, ◌∙◌}
use Rattle.std.specs.List.{slice_get}
use Rattle.std.proofs.lemmas.Bool.{both_ways, not-true, not-false, false≢true, and_parts, and_from}
use Rattle.trace.specs.declared.event.Event.{Event}
use Rattle.trace.specs.Traces.{At}
use Rattle.trace.specs.Lookups.{fits_here}
use Rattle.trace.specs.Cuts.{In}
use Rattle.trace.proofs.Events.{at_inside}
use Rattle.reel.proofs.Left.{passes_some}
use Rattle.predict.specs.Held.{below, held, lacks, Outside}
use Rattle.predict.specs.Parts.{fits_inside}

-- a test of a position that passes has an event that passes
pub tested : (fits : Event → Bool) (o : Option Event) → fits_here fits o ≡ true → (e : Event) × (o ≡ Some e) × (fits e ≡ true)
tested fits None h = absurd (false≢true h)
tested fits (Some e) h = (e, refl, h)

-- and one that fails has no such event
pub untested : (fits : Event → Bool) (t : List Event) (k : ℕ) (e : Event) → fits_here fits (slice_get t k) ≡ false → At t k e → fits e ≡ true → ⊥
untested fits t k e out i h = both_ways (fits e) (sym (ap (fits_here fits) i) ∙ out) h

-- e is the event at k, and b tells whether it is in the cut
pub record Seen (t : List Event) (bs : List ℕ) (k : ℕ) (e : Event) (b : Bool) : Type 0 where
  pub is : Some e ≡ slice_get t k
  pub told : b ≡ below bs k e

module _ (t : List Event) (bs : List ℕ) where
  -- so it is with the first of the events from k on
  pub seen_first : {b : Bool} (k : ℕ) (e : Event) (left rest : List Event) → left ≡ drop k t → left ≡ e ∷ rest → b ≡ below bs k e → Seen t bs k e b
  seen_first k e left rest from first told = record { is = (passes_some t k e left rest from first).0; told = told }

  pub seen_at : {k : ℕ} {e : Event} {b : Bool} → Seen t bs k e b → At t k e
  seen_at s = sym s.is

  pub seen_held : {k : ℕ} {e : Event} {b : Bool} → Seen t bs k e b → held t bs k ≡ b
  seen_held {k} s = sym (ap (fits_here (below bs k)) s.is) ∙ sym s.told

  pub lacks_outside : (w : ℕ) → lacks t bs w ≡ true → Outside t bs w
  lacks_outside w h =
      let (e, i, out) = tested (λ f. not (below bs w f)) (slice_get t w) h in
      record { in_trace = at_inside t w e i; not_held = ap (fits_here (below bs w)) i ∙ not-true (below bs w e) out }

  pub lacks_inside : (w : ℕ) (e : Event) → At t w e → lacks t bs w ≡ false → In w (held t bs)
  lacks_inside w e i h = ap (fits_here (below bs w)) i ∙ not-false (below bs w e) (sym (ap (fits_here (λ f. not (below bs w f))) i) ∙ h)

  pub inside_event : (fits : Event → Bool) (k : ℕ) → fits_inside fits t bs k ≡ true → (e : Event) × At t k e × (fits e ≡ true) × In k (held t bs)
  inside_event fits k h =
      let (e, i, both) = tested (λ f. fits f && below bs k f) (slice_get t k) h in
      let (does, inside) = and_parts (fits e) (below bs k e) both in
      (e, i, does, ap (fits_here (below bs k)) i ∙ inside)

  pub inside_from : (fits : Event → Bool) (k : ℕ) (e : Event) → At t k e → fits e ≡ true → In k (held t bs) → fits_inside fits t bs k ≡ true
  inside_from fits k e i does inside =
      ap (fits_here (λ f. fits f && below bs k f)) i ∙ and_from (fits e) (below bs k e) does (sym (ap (fits_here (below bs k)) i) ∙ inside)
