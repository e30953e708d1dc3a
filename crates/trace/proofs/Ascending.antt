-- Ascending lists of positions.
use Rattle.std.proofs.Common.{ℕ, ◌<◌, ◌≤◌, List, [], ◌∷◌, ◌++◌, length, sym, refl, ap, subst, ⊎_elim, arith, length-append}
use mathlib.Core.List.Memᴰ
use mathlib.Core.List.{Memᴰ}
use Rattle.trace.specs.Reorderings.{Ascending}
use Rattle.trace.proofs.Places.{Stands, stands, Side, side, before, here, behind}

-- an ascending list with a greater position pushed to its end is ascending
pub ascending_push : (xs : List ℕ) (k : ℕ) → Ascending xs → ((m : ℕ) → Memᴰ m xs → m < k) → Ascending (xs ++ (k ∷ []))
ascending_push [] k a below = (λ m i. absurd (Memᴰ.not-nil i), tt)
ascending_push (x ∷ xs) k a below = (first, ascending_push xs k a.1 (λ m i. below m (Memᴰ.tail i)))
  where
    first : (m : ℕ) → Memᴰ m (xs ++ (k ∷ [])) → x < m
    first m i = ⊎_elim (a.0 m) (λ j. subst (λ n. x < n) (sym (Memᴰ.eq_of_singleton j)) (below x (Memᴰ.head refl)))
        (Memᴰ.append_cases xs i)

-- the parts of an ascending list are ascending, and each position of the first is less than each of the second
ascending_parts : (xs ys : List ℕ) → Ascending (xs ++ ys) → Ascending xs × Ascending ys × ((m n : ℕ) → Memᴰ m xs → Memᴰ n ys → m < n)
ascending_parts [] ys a = (tt, a, λ m n i. absurd (Memᴰ.not-nil i))
ascending_parts (x ∷ xs) ys a =
    let (front, back, less) = ascending_parts xs ys a.1 in
    let first : (m : ℕ) → Memᴰ m xs → x < m = λ m i. a.0 m (Memᴰ.append_left ys i) in
    ((first, front), back, λ m n i j. ⊎_elim (λ e. subst (λ y. y < n) (sym e) (a.0 n (Memᴰ.append_right xs j))) (λ k. less m n k j) (Memᴰ.cases_cons i))

-- in an ascending list the lesser members stand in front of a place, and the greater ones behind it
module _ {k : ℕ} {xs : List ℕ} (s : Stands k xs) (ascending : Ascending xs) where
  parts : Ascending s.front × Ascending (k ∷ s.back) × ((m n : ℕ) → Memᴰ m s.front → Memᴰ n (k ∷ s.back) → m < n)
  parts = ascending_parts s.front (k ∷ s.back) (subst Ascending s.split ascending)

  -- the two parts are ascending
  pub ascending_front : Ascending s.front
  ascending_front = parts.0

  pub ascending_back : Ascending s.back
  ascending_back = parts.1.1

  -- what stands in front is less, and what stands behind is greater
  pub below : (m : ℕ) → Memᴰ m s.front → m < k
  below m i = parts.2 m k i (Memᴰ.head refl)

  pub above : (m : ℕ) → Memᴰ m s.back → k < m
  above = parts.1.0

  -- and the other way round
  pub lesser : (m : ℕ) → Memᴰ m xs → m < k → Memᴰ m s.front
  lesser m i h = of_side (side s i)
    where
      of_side : Side m k s.front s.back → Memᴰ m s.front
      of_side (before j) = j
      of_side (here e) = absurd (omega arith)
      of_side (behind j) = let g = above m j in absurd (omega arith)

  pub greater : (m : ℕ) → Memᴰ m xs → k < m → Memᴰ m s.back
  greater m i h = of_side (side s i)
    where
      of_side : Side m k s.front s.back → Memᴰ m s.back
      of_side (before j) = let g = below m j in absurd (omega arith)
      of_side (here e) = absurd (omega arith)
      of_side (behind j) = j

-- an ascending list is no longer than a list that has all of its members
pub no_longer : (xs ys : List ℕ) → Ascending xs → ((m : ℕ) → Memᴰ m xs → Memᴰ m ys) → length xs ≤ length ys
no_longer [] ys a within = omega arith
no_longer (x ∷ xs) ys a within =
    let shorter = no_longer xs (s.front ++ s.back) a.1 others in
    omega (arith, ap length s.split, length-append s.front (x ∷ s.back), length-append s.front s.back)
  where
    s : Stands x ys
    s = stands (within x (Memᴰ.head refl))

    others : (m : ℕ) → Memᴰ m xs → Memᴰ m (s.front ++ s.back)
    others m i = of_side (side s (within m (Memᴰ.tail i)))
      where
        of_side : Side m x s.front s.back → Memᴰ m (s.front ++ s.back)
        of_side (before j) = Memᴰ.append_left s.back j
        of_side (here e) = let h = a.0 m i in absurd (omega arith)
        of_side (behind j) = Memᴰ.append_right s.front j
