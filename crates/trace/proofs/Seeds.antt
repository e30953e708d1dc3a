-- The previous events of some events.
use Rattle.std.proofs.Common.{◌≡◌, ℕ, ◌<◌, List, [], ◌∷◌, length, Some, None, Option, sym, refl, subst, ⊎_elim}
use mathlib.Core.List.Memᴰ
use mathlib.Core.List.{Memᴰ}
use Rattle.trace.specs.declared.event.Event.{Event}
use Rattle.trace.specs.Traces.{Previous}
use Rattle.trace.specs.Lookups.{previous, after_some, previous_events}
use Rattle.trace.specs.Cuts.{SeedsOf}
use Rattle.trace.proofs.Events.{at_inside}
use Rattle.trace.proofs.Lookups.{previous_at, previous_found}

module _ (t : List Event) where
  -- each of them is the previous event of one of the events
  sound : (es : List ℕ) (d : ℕ) → Memᴰ d (previous_events t es) → (e : ℕ) × Memᴰ e es × Previous t e d
  sound [] d m = absurd (Memᴰ.not-nil m)
  sound (e ∷ es) d m = by (previous t e) refl (sound es d) m
    where
      by : (o : Option ℕ) → previous t e ≡ o → (Memᴰ d (previous_events t es) → (x : ℕ) × Memᴰ x es × Previous t x d)
          → Memᴰ d (after_some o (previous_events t es)) → (x : ℕ) × Memᴰ x (e ∷ es) × Previous t x d
      by None i rest n = let r = rest n in (r.0, Memᴰ.tail r.1, r.2)
      by (Some k) i rest n =
          ⊎_elim (λ q. (e, Memᴰ.head refl, subst (Previous t e) (sym q) (((previous_found t e).0 k).0 i)))
          (λ n'. let r = rest n' in (r.0, Memᴰ.tail r.1, r.2)) (Memᴰ.cases_cons n)

  -- and each previous event is among them
  complete : (es : List ℕ) (e d : ℕ) → Memᴰ e es → Previous t e d → Memᴰ d (previous_events t es)
  complete [] e d m h = absurd (Memᴰ.not-nil m)
  complete (x ∷ es) e d (Memᴰ.head q) h =
      let i = ((previous_found t x).0 d).1 (subst (λ (y : ℕ). Previous t y d) q h) in rw i (Memᴰ.head refl)
  complete (x ∷ es) e d (Memᴰ.tail m) h = by (previous t x) (complete es e d m h)
    where
      by : (o : Option ℕ) → Memᴰ d (previous_events t es) → Memᴰ d (after_some o (previous_events t es))
      by None n = n
      by (Some k) n = Memᴰ.tail n

  pub seeds_of : (es : List ℕ) → SeedsOf t es (previous_events t es)
  seeds_of es = record { sound = sound es; complete = complete es }

  -- they stand in the trace
  pub seeds_within : (es : List ℕ) (s : ℕ) → Memᴰ s (previous_events t es) → s < length t
  seeds_within es s m = let h = sound es s m in let p = previous_at t h.0 s h.2 in at_inside t s p.0 p.1
