-- What the seeds are that an iterator gives.
use Rattle.std.proofs.Common.{◌≡◌, ℕ, List, [], ◌∷◌, Some, None, Option, sym, refl, ap, ◌∙◌}
use mathlib.Core.List.{map-id}
use Rattle.std.specs.Iterator.{Drains}
use Rattle.std.specs.List.{filter_map, cons_option}
use Rattle.std.proofs.iter.Yields.{gives_Drains}
use Rattle.std.proofs.lemmas.Iterator.{YieldsList}
use Rattle.trace.specs.declared.event.Event.{Event}
use Rattle.trace.specs.Lookups.{previous, after_some, previous_events}

-- those that it yields
pub drained : {S : Type 0} {steps : S → Option ℕ → S → Type 0} {s : S} {all : List ℕ} (ss : List ℕ) → Drains steps s ss → YieldsList steps (λ k. k) s all
    → ss ≡ all
drained {S} {steps} {s} {all} ss drains yields = sym (map-id ss) ∙ gives_Drains steps (λ k. k) ss all s yields.runs drains

-- and the previous events of some events, as far as there are any, where it looks for each
pub previous_filtered : (t : List Event) (es : List ℕ) → filter_map (previous t) es ≡ previous_events t es
previous_filtered t [] = refl
previous_filtered t (e ∷ es) = by (previous t e) (filter_map (previous t) es) ∙ ap (after_some (previous t e)) (previous_filtered t es)
  where
    by : (o : Option ℕ) (ks : List ℕ) → cons_option o ks ≡ after_some o ks
    by None ks = refl
    by (Some k) ks = refl
