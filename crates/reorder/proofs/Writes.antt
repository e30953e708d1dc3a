-- The latest write to a variable among the positions of a list, as the list gets longer.
use Rattle.std.proofs.Common.{◌≡◌, ℕ, Bool, true, false, cond, ◌↔◌, List, [], ◌∷◌, ◌++◌, reverse, Option, Some, sym, refl, ap, ◌∙◌, subst, ⊎_elim, append_assoc, arith}
use mathlib.Core.Logic.Iff
use mathlib.Core.List.Memᴰ
use mathlib.Core.List.{Memᴰ}
use Rattle.std.specs.List.{slice_get, find}
use Rattle.std.proofs.lemmas.List.{reverse-reverse}
use Rattle.std.proofs.lemmas.Grind.{reverse_onto}
use Rattle.trace.specs.declared.event.Event.{Event}
use Rattle.trace.specs.declared.kind.Kind.TheVariants.{Write}
use Rattle.trace.specs.Traces.{At}
use Rattle.trace.specs.Lookups.{fits_here, writes}
use Rattle.trace.specs.Reorderings.{LatestWrite}
use Rattle.trace.proofs.Lookups.{is_write, as_write}
use Rattle.predict.proofs.Inside.{tested, untested}
use Rattle.reorder.proofs.Members.{push_cases, no_place, Place, place}
use Rattle.reorder.proofs.Members.Place.{last, within}

module _ (t : List Event) (x : ℕ) where
  -- among no positions there is none
  pub no_latest_write : (w : ℕ) → LatestWrite t [] x w → ⊥
  no_latest_write w l = no_place l.front l.back w l.stands

  module _ (xs : List ℕ) (k : ℕ) where
    -- a write at the end is the latest
    pub latest_write_here : true ≡ fits_here (writes x) (slice_get t k) → (w : ℕ) → (Some k ≡ Some w) ↔ LatestWrite t (xs ++ (k ∷ [])) x w
    latest_write_here h w = (λ q. subst (LatestWrite t (xs ++ (k ∷ [])) x) (cc) new, λ l. only l (place xs k l.front w l.back l.stands))
      where
        new : LatestWrite t (xs ++ (k ∷ [])) x k
        new =
            let (e, i, does) = tested (writes x) (slice_get t k) (sym h) in
            let (kind, variable) = is_write e x does in
            record {
              front = xs;
              back = [];
              stands = refl;
              write = e;
              write_is = i;
              is_write = kind;
              same_variable = variable;
              none_later = λ m f j. absurd (Memᴰ.not-nil j);
            }

        only : (l : LatestWrite t (xs ++ (k ∷ [])) x w) → Place xs k l.front w l.back → Some k ≡ Some w
        only l (last p q r) = ap Some (sym q)
        only l (within back p q) =
            absurd (l.none_later k new.write (subst (Memᴰ k) (sym q) (Memᴰ.append_right back (Memᴰ.head refl))) new.write_is new.is_write
            new.same_variable)

    -- another event at the end leaves it
    pub latest_write_skip : false ≡ fits_here (writes x) (slice_get t k) → (w : ℕ) → LatestWrite t xs x w ↔ LatestWrite t (xs ++ (k ∷ [])) x w
    latest_write_skip h w = (longer, λ l. shorter l (place xs k l.front w l.back l.stands))
      where
        no_write : (m : ℕ) (e : Event) → m ≡ k → At t m e → e.kind ≡ Write → e.subject ≡ x → ⊥
        no_write m e q i a b = untested (writes x) t k e (sym h) (subst (λ (n : ℕ). At t n e) q i) (as_write e x a b)

        longer : LatestWrite t xs x w → LatestWrite t (xs ++ (k ∷ [])) x w
        longer l = record {
          front = l.front;
          back = l.back ++ (k ∷ []);
          stands = ap (λ ys. ys ++ (k ∷ [])) l.stands ∙ append_assoc l.front (w ∷ l.back) (k ∷ []);
          write = l.write;
          write_is = l.write_is;
          is_write = l.is_write;
          same_variable = l.same_variable;
          none_later = λ m e i j a b. ⊎_elim (λ n. l.none_later m e n j a b) (λ q. no_write m e q j a b) (push_cases l.back i);
        }

        shorter : (l : LatestWrite t (xs ++ (k ∷ [])) x w) → Place xs k l.front w l.back → LatestWrite t xs x w
        shorter l (last p q r) = absurd (no_write w l.write q l.write_is l.is_write l.same_variable)
        shorter l (within back p q) = record {
          front = l.front;
          back = back;
          stands = p;
          write = l.write;
          write_is = l.write_is;
          is_write = l.is_write;
          same_variable = l.same_variable;
          none_later = λ m e i. l.none_later m e (subst (Memᴰ m) (sym q) (Memᴰ.append_left (k ∷ []) i));
        }

  -- so the first write to it from the end is the latest
  from_the_end : (ys : List ℕ) (w : ℕ) → (find (λ k. fits_here (writes x) (slice_get t k)) ys ≡ Some w) ↔ LatestWrite t (reverse ys) x w
  from_the_end [] w = (λ q. absurd (grind arith), λ l. absurd (no_latest_write w l))
  from_the_end (k ∷ ys) w = rw (reverse_onto ys k []) (of_test (fits_here (writes x) (slice_get t k)) refl (from_the_end ys w))
    where
      rest : Option ℕ
      rest = find (λ m. fits_here (writes x) (slice_get t m)) ys

      of_test : (b : Bool) → fits_here (writes x) (slice_get t k) ≡ b → (rest ≡ Some w) ↔ LatestWrite t (reverse ys) x w
          → (cond (fits_here (writes x) (slice_get t k)) (Some k) rest ≡ Some w) ↔ LatestWrite t (reverse ys ++ (k ∷ [])) x w
      of_test true h further = rw h (latest_write_here (reverse ys) k (sym h) w)
      of_test false h further = rw h (Iff.trans further (latest_write_skip (reverse ys) k (sym h) w))

  pub latest_found : (o : Option ℕ) (xs : List ℕ) → o ≡ find (λ k. fits_here (writes x) (slice_get t k)) (reverse xs) → (w : ℕ)
      → (o ≡ Some w) ↔ LatestWrite t xs x w
  latest_found o xs is w = rw is (rw reverse-reverse at (from_the_end (reverse xs) w))
