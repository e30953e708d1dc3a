-- What is left of a trace from a position on.
use Rattle.std.proofs.Common.{◌≡◌, ℕ, ◌+◌, ◌<◌, ◌≤◌, List, [], ◌∷◌, length, get_or, drop, Some, None, sym, ap, ◌∙◌, ⊎_elim, length-drop, arith}
use Rattle.std.specs.List.{slice_get}
use Rattle.std.proofs.lemmas.List.{drop_more, drop_all}
use Rattle.std.proofs.lemmas.Option.{slice_get_within, slice_get-get_or, slice_get_cases}
use Rattle.trace.specs.declared.event.Event.{Event}
use Rattle.trace.proofs.Events.{at_some}

module _ (t : List Event) (k : ℕ) where
  -- nothing, where there is no event
  pub left_none : None ≡ slice_get t k → drop k t ≡ []
  left_none q = ⊎_elim (λ s. let is = s.2 in absurd (grind arith)) (λ s. drop_all k t s.0) ((slice_get_cases t k).1)

  module _ (e : Event) (is : Some e ≡ slice_get t k) where
    -- the event there, and what is left from the next position on
    pub left_some : drop k t ≡ e ∷ drop (k + 1) t
    left_some =
        let low = slice_get_within t k e (sym is) in
        let same = slice_get-get_or t k e low in
        let one : get_or t k e ≡ e = cc in
        drop_more t k e low ∙ ap (λ f. f ∷ drop (k + 1) t) one

    pub left_less : length (drop (k + 1) t) < length (drop k t)
    left_less = omega (arith, ap length left_some)

-- where the events that are left are those from k on: the first of them stands at k, and the others follow
pub passes_some : (t : List Event) (k : ℕ) (e : Event) (left rest : List Event) → left ≡ drop k t → left ≡ e ∷ rest
    → (Some e ≡ slice_get t k) × (k < length t) × (rest ≡ drop (k + 1) t)
passes_some t k e left rest from first =
    let low : k < length t = omega (arith, ap length (sym from ∙ first), length-drop k t) in
    let (f, is) = at_some t k low in
    let same : f ∷ drop (k + 1) t ≡ e ∷ rest = sym (left_some t k f (sym is)) ∙ sym from ∙ first in
    (cc, low, cc)

-- and where there are none, the trace ends before k
pub passes_end : (t : List Event) (k : ℕ) (left : List Event) → left ≡ drop k t → left ≡ [] → length t ≤ k
passes_end t k left from none = omega (arith, ap length (sym from ∙ none), length-drop k t)
