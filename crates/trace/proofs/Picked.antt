-- The events at a list of positions, part by part.
use Rattle.std.proofs.Common.{◌≡◌, ℕ, List, [], ◌∷◌, ◌++◌, Some, None, Option, sym, refl, ap, ◌∙◌, ⊎_elim}
use mathlib.Core.List.Memᴰ
use mathlib.Core.List.{Memᴰ}
use Rattle.std.specs.List.{slice_get}
use Rattle.trace.specs.declared.event.Event.{Event}
use Rattle.trace.specs.Traces.{At, at_start, standing_after, Allowed, AdmitsFrom, Admits}
use Rattle.trace.specs.Reorderings.{picked, take_in}
use Rattle.trace.proofs.Places.{Stands, at_split}
use Rattle.trace.proofs.Holders.{admits_append, admits_push}

module _ (t : List Event) where
  -- an event at the first position comes first
  picked_some : (k : ℕ) (ks : List ℕ) (e : Event) → At t k e → picked t (k ∷ ks) ≡ e ∷ picked t ks
  picked_some k ks e i = rw i refl

  -- the events at the positions of a list are those of its parts
  pub picked_append : (xs ys : List ℕ) → picked t (xs ++ ys) ≡ picked t xs ++ picked t ys
  picked_append [] ys = refl
  picked_append (k ∷ xs) ys = of_event (slice_get t k) refl (picked_append xs ys)
    where
      of_event : (o : Option Event) → slice_get t k ≡ o → picked t (xs ++ ys) ≡ picked t xs ++ picked t ys
          → picked t (k ∷ (xs ++ ys)) ≡ picked t (k ∷ xs) ++ picked t ys
      of_event None i r = rw i r
      of_event (Some e) i r = rw i (ap (λ es. e ∷ es) r)

  pub picked_at : {k : ℕ} {xs : List ℕ} (s : Stands k xs) (e : Event) → At t k e → picked t xs ≡ picked t s.front ++ (e ∷ picked t s.back)
  picked_at {k} s e i = ap (picked t) s.split ∙ picked_append s.front (k ∷ s.back) ∙ ap (λ es. picked t s.front ++ es)
      (picked_some k s.back e i)

  -- if a list with the event e at one of its places is admitted, so is its front, and e after that
  module _ {k : ℕ} {xs : List ℕ} (s : Stands k xs) (e : Event) (i : At t k e) (ok : Admits (picked t xs)) where
    admits_parts : Admits (picked t s.front) × AdmitsFrom (standing_after (picked t s.front)) (e ∷ picked t s.back)
    admits_parts = (admits_append at_start (picked t s.front) (e ∷ picked t s.back)).0 (rw (picked_at s e i) at ok)

    pub admits_before : Admits (picked t s.front)
    admits_before = admits_parts.0

    pub allowed_at : Allowed (standing_after (picked t s.front)) e
    allowed_at = admits_parts.1.0

  -- a list goes on being admitted if its next event is allowed
  pub picked_push : (xs : List ℕ) (k : ℕ) (e : Event) → At t k e → Admits (picked t xs) → Allowed (standing_after (picked t xs)) e
      → Admits (picked t (xs ++ (k ∷ [])))
  picked_push xs k e i a b = rw (picked_at (at_split xs [] refl) e i) (admits_push at_start (picked t xs) e a b)

  -- an event at one of the positions of a list stands at one of them
  pub picked_member : (xs : List ℕ) (e : Event) → Memᴰ e (picked t xs) → (k : ℕ) × Memᴰ k xs × At t k e
  picked_member [] e m = absurd (Memᴰ.not-nil m)
  picked_member (k ∷ xs) e m = of_event (slice_get t k) refl m (picked_member xs e)
    where
      of_event : (o : Option Event) → slice_get t k ≡ o → Memᴰ e (take_in o (picked t xs))
          → (Memᴰ e (picked t xs) → (n : ℕ) × Memᴰ n xs × At t n e) → (n : ℕ) × Memᴰ n (k ∷ xs) × At t n e
      of_event None i m rest = let r = rest m in (r.0, Memᴰ.tail r.1, r.2)
      of_event (Some f) i m rest =
          ⊎_elim (λ q. (k, Memᴰ.head refl, i ∙ ap Some (sym q))) (λ n. let r = rest n in (r.0, Memᴰ.tail r.1, r.2)) (Memᴰ.cases_cons m)
