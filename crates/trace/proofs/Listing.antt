-- The listing of a set of positions is ascending, and has just the positions of the set.
use Rattle.std.proofs.Common.{◌≡◌, ℕ, zero, suc, ◌<◌, false, ◌⊎◌, [], ◌∷◌, ◌++◌, sym, refl, ap, ◌∙◌, subst, inl, inr, ⊎_elim, arith}
use mathlib.Core.List.Memᴰ
use mathlib.Core.List.{Memᴰ}
use Rattle.std.proofs.lemmas.Bool.{cases_Bool, cases_lt}
use Rattle.trace.specs.Cuts.{Positions, In, listed}
use Rattle.trace.specs.Lookups.{ListingRight}
use Rattle.trace.proofs.Places.{Stands, is_member}
use Rattle.trace.specs.Reorderings.{Ascending}
use Rattle.trace.proofs.Ascending.{ascending_push, lesser}

-- one position more: it is pushed to the end if it is in the set
pub listed_in : (c : Positions) (n : ℕ) → In n c → listed c (suc n) ≡ listed c n ++ (n ∷ [])
listed_in c n h = rw h refl

pub listed_out : (c : Positions) (n : ℕ) → c n ≡ false → listed c (suc n) ≡ listed c n
listed_out c n h = rw h refl

-- the members of the listing with one position more
listed_more : (c : Positions) (n k : ℕ) → Memᴰ k (listed c n) → Memᴰ k (listed c (suc n))
listed_more c n k i = ⊎_elim (λ h. rw (listed_in c n h) (Memᴰ.append_left (n ∷ []) i)) (λ e. rw (listed_out c n e) i) (cases_Bool (c n))

listed_last : (c : Positions) (n k : ℕ) → In k c → k ≡ n → Memᴰ k (listed c (suc n))
listed_last c n k h e = rw (listed_in c n (ap c (sym e) ∙ h)) (Memᴰ.append_right (listed c n) (Memᴰ.head e))

listed_cases : (c : Positions) (n k : ℕ) → Memᴰ k (listed c (suc n)) → Memᴰ k (listed c n) ⊎ (In n c × (k ≡ n))
listed_cases c n k i = ⊎_elim is_in (λ e. inl (subst (Memᴰ k) (listed_out c n e) i)) (cases_Bool (c n))
  where
    is_in : In n c → Memᴰ k (listed c n) ⊎ (In n c × (k ≡ n))
    is_in h = ⊎_elim inl (λ j. inr (h, Memᴰ.eq_of_singleton j)) (Memᴰ.append_cases (listed c n) (subst (Memᴰ k) (listed_in c n h) i))

-- the listing below n has just the positions of the set below n
pub listed_within : (c : Positions) (n k : ℕ) → Memᴰ k (listed c n) → In k c × (k < n)
listed_within c zero k i = absurd (Memᴰ.not-nil i)
listed_within c (suc n) k i =
    ⊎_elim (λ j. let r = listed_within c n k j in (r.0, omega arith)) (λ r. (ap c r.1 ∙ r.0, omega arith)) (listed_cases c n k i)

pub listed_all : (c : Positions) (n k : ℕ) → In k c → k < n → Memᴰ k (listed c n)
listed_all c zero k h b = absurd (omega arith)
listed_all c (suc n) k h b =
    ⊎_elim (λ l. listed_more c n k (listed_all c n k h l)) (λ g. listed_last c n k h (omega arith)) (cases_lt k n)

-- the listing is ascending
pub listed_ascending : (c : Positions) (n : ℕ) → Ascending (listed c n)
listed_ascending c zero = tt
listed_ascending c (suc n) =
    let a = listed_ascending c n in
    ⊎_elim (λ h. rw (listed_in c n h) (ascending_push (listed c n) n a (λ m i. (listed_within c n m i).1))) (λ e. rw (listed_out c n e) a)
    (cases_Bool (c n))

-- so the listing is right
pub listing_right : ListingRight
listing_right c n = (listed_ascending c n, λ k. (listed_within c n k, λ h. listed_all c n k h.0 h.1))

-- where k stands, the front has all of the earlier positions of the set
pub listed_front : (c : Positions) (n : ℕ) {k : ℕ} (s : Stands k (listed c n)) (m : ℕ) → In m c → m < k → Memᴰ m s.front
listed_front c n {k} s m h b =
    let u = (listed_within c n k (is_member s)).1 in
    lesser s (listed_ascending c n) m (listed_all c n m h (omega arith)) b

-- equal sets have equal listings
pub listed_same : (c d : Positions) → ((k : ℕ) → c k ≡ d k) → (n : ℕ) → listed c n ≡ listed d n
listed_same c d same zero = refl
listed_same c d same (suc n) = cc (same n, listed_same c d same n)
