-- The members of a list of positions, as a test goes through them, and the places in a list with one position more at its end.
use Rattle.std.proofs.Common.{◌≡◌, ℕ, suc, ◌+◌, ◌<◌, Bool, true, false, eqb, ◌↔◌, ◌⊎◌, List, [], ◌∷◌, ◌++◌, length, get_or, take, drop, sym, refl, ap, ◌∙◌, subst, inl, inr, ⊎_elim, arith, length-append, take-append-drop}
use mathlib.Core.List.Memᴰ
use mathlib.Core.List.{Memᴰ}
use Rattle.std.specs.Bool.{MatchBool}
use Rattle.std.specs.List.{list_all, AllWithin, HoldsAt, Contains, IsAnyAnswer}
use Rattle.std.proofs.lemmas.Bool.{false≢true, both_ways, eqb-true, eq-eqb}
use Rattle.std.proofs.lemmas.List.{drop_more}
use Rattle.std.proofs.lemmas.List.Elements.{All-contains}
use Rattle.std.proofs.lemmas.List.Sums.{AllPass-from_list_all, list_all-from_AllPass}
use Rattle.trace.proofs.Places.{Stands, at_split, is_member}

-- an index is a place in the list
abbrev pub at_index : (xs : List ℕ) (i d : ℕ) → i < length xs → Stands (get_or xs i d) xs
at_index xs i d b = at_split (take i xs) (drop (i + 1) xs) (sym (take-append-drop i xs) ∙ ap (λ ys. take i xs ++ ys) (drop_more xs i d b))

-- what stands at an index is a member
pub in_list : (xs : List ℕ) (i : ℕ) → i < length xs → Memᴰ (get_or xs i 0) xs
in_list xs i b = is_member (at_index xs i 0 b)

-- and a member stands at an index
has_index : {m : ℕ} {xs : List ℕ} → Memᴰ m xs → Contains xs m
has_index (Memᴰ.head e) = (0, omega arith, sym e)
has_index (Memᴰ.tail i) = let (k, b, is) = has_index i in (suc k, omega arith, is)

-- a member of a list with one position more
pub push_cases : {m k : ℕ} (xs : List ℕ) → Memᴰ m (xs ++ (k ∷ [])) → Memᴰ m xs ⊎ (m ≡ k)
push_cases xs i = ⊎_elim inl (λ j. inr (Memᴰ.eq_of_singleton j)) (Memᴰ.append_cases xs i)

-- an answer by cases on whether some member equals k is whether k is a member
pub has_told : (k : ℕ) (xs : List ℕ) (r : Bool) → IsAnyAnswer (λ m b. eqb m k ≡ b) xs r → (r ≡ true) ↔ Memᴰ k xs
has_told k xs true (i, b, same) = (λ q. subst (λ m. Memᴰ m xs) (eqb-true (get_or xs i 0) k (same 0)) (in_list xs i b), λ j. refl)
has_told k xs false none = (
  λ q. absurd (false≢true q),
  λ j. absurd (both_ways (eqb k k) (All-contains (λ m. eqb m k ≡ false) xs k (λ i d b. none i d (omega arith) b) (has_index j)) (eq-eqb k k refl)),
)

-- a test that tells of each position whether P holds passes each member just if P holds of each
pub each_passes : (test : ℕ → Bool) (P : ℕ → Type 0) → ((m : ℕ) → (test m ≡ true) ↔ P m) → (xs : List ℕ)
    → (list_all test xs ≡ true) ↔ ((m : ℕ) → Memᴰ m xs → P m)
each_passes test P tells xs = (
  λ q m i. (tells m).0 (All-contains (λ k. test k ≡ true) xs m (AllPass-from_list_all test xs q) (has_index i)),
  λ all. list_all-from_AllPass test xs (λ k d b. (tells (get_or xs k d)).1 (all (get_or xs k d) (is_member (at_index xs k d b)))),
)

-- an answer by cases on whether P holds of each member is whether it does
pub each_answered : (P : ℕ → Type 0) (xs : List ℕ) (r : Bool)
    → MatchBool r (AllWithin P xs 0 (length xs)) ((k : ℕ) × (k < length xs) × HoldsAt (λ m. P m → ⊥) xs k)
    → (r ≡ true) ↔ ((m : ℕ) → Memᴰ m xs → P m)
each_answered P xs true all = (λ q m i. All-contains P xs m (λ k d. all k d (omega arith)) (has_index i), λ each. refl)
each_answered P xs false (k, b, fails) = (λ q. absurd (false≢true q), λ each. absurd (fails 0 (each (get_or xs k 0) (in_list xs k b))))

-- the empty list has no place
pub no_place : (xs ys : List ℕ) (k : ℕ) → [] ≡ xs ++ (k ∷ ys) → ⊥
no_place xs ys k e = let n = simp length-append at (ap length e) in omega arith

-- a place in a list with k more at its end is the place of k, or one in the list
pub data Place (xs : List ℕ) (k : ℕ) (ys : List ℕ) (m : ℕ) (zs : List ℕ) : Type 0 where
  last : ys ≡ xs → m ≡ k → zs ≡ [] → Place xs k ys m zs
  within : (back : List ℕ) → xs ≡ ys ++ (m ∷ back) → zs ≡ back ++ (k ∷ []) → Place xs k ys m zs

-- one of the two
pub place : (xs : List ℕ) (k : ℕ) (ys : List ℕ) (m : ℕ) (zs : List ℕ) → xs ++ (k ∷ []) ≡ ys ++ (m ∷ zs) → Place xs k ys m zs
place [] k [] m zs e = last refl (cc) (cc)
place [] k (y ∷ ys) m zs e = absurd (no_place ys zs m (cc))
place (x ∷ xs) k [] m zs e = within xs (cc) (cc)
place (x ∷ xs) k (y ∷ ys) m zs e = further (place xs k ys m zs (cc))
  where
    further : Place xs k ys m zs → Place (x ∷ xs) k (y ∷ ys) m zs
    further (last p q r) = last (cc) q r
    further (within back p q) = within back (cc) q
