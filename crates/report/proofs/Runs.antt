-- A list that leaves events enabled has just the events that each thread runs up to its last position in the list.
use Rattle.std.proofs.Common.{◌≡◌, ℕ, ◌<◌, ◌≤◌, Bool, true, cond, ◌⊎◌, List, [], ◌∷◌, Some, None, Option, sym, refl, ap, ◌∙◌, subst, inl, inr, ⊎_elim, arith}
use mathlib.Core.List.Memᴰ
use mathlib.Core.List.{Memᴰ}
use Rattle.std.specs.List.{slice_get, fold}
use Rattle.std.proofs.lemmas.Bool.{cases_Bool, cases_lt, eq-eqb, eqb-true, false≢true}
use Rattle.trace.specs.declared.event.Event.{Event}
use Rattle.trace.specs.Reorderings.{Ascending, Leaves}
use Rattle.trace.proofs.Places.{stands, of_front}
use Rattle.report.specs.Witnesses.{by_thread, last_of, RunsThreads}

module _ (t : List Event) (h : ℕ) where
  abbrev is_of : ℕ → Bool
  is_of k = by_thread h (slice_get t k)

  abbrev next : Option ℕ → ℕ → Option ℕ
  next last k = cond (is_of k) (Some k) last

  -- the last position is one of the list, and its event is one of the thread
  last_is : (ws : List ℕ) (a : Option ℕ) (b : ℕ) → fold next a ws ≡ Some b → (Memᴰ b ws × (is_of b ≡ true)) ⊎ (a ≡ Some b)
  last_is [] a b is = inr is
  last_is (w ∷ ws) a b is = ⊎_elim (λ m. inl (Memᴰ.tail m.0, m.1)) here (last_is ws (next a w) b is)
    where
      here : next a w ≡ Some b → (Memᴰ b (w ∷ ws) × (is_of b ≡ true)) ⊎ (a ≡ Some b)
      here q = ⊎_elim (λ yes-w. let e : Some w ≡ Some b = rw yes-w at q in let same : w ≡ b = cc in inl (Memᴰ.head (sym same), ap is_of (sym same) ∙ yes-w))
          (λ no-w. inr (rw no-w at q)) (cases_Bool (is_of w))

  -- behind a position, no lesser one is the last
  last_after : (ws : List ℕ) (a : ℕ) → ((m : ℕ) → Memᴰ m ws → a < m) → Ascending ws → (b : ℕ) × (fold next (Some a) ws ≡ Some b) × (a ≤ b)
  last_after [] a less asc = (a, refl, omega arith)
  last_after (w ∷ ws) a less asc =
      ⊎_elim (λ yes-w. let r = last_after ws w asc.0 asc.1 in let l = less w (Memᴰ.head refl) in (r.0, rw yes-w r.1, (let z = r.2 in omega arith)))
      (λ no-w. let r = last_after ws a (λ m i. less m (Memᴰ.tail i)) asc.1 in (r.0, rw no-w r.1, r.2)) (cases_Bool (is_of w))

  -- so the last one is not less than any
  last_least : (ws : List ℕ) (a : Option ℕ) (k : ℕ) → Ascending ws → Memᴰ k ws → is_of k ≡ true → (b : ℕ) × (fold next a ws ≡ Some b) × (k ≤ b)
  last_least [] a k asc i yes-k = absurd (Memᴰ.not-nil i)
  last_least (w ∷ ws) a k asc i yes-k =
      ⊎_elim (λ same. let yes-w : is_of w ≡ true = ap is_of (sym same) ∙ yes-k in
      let r = last_after ws w asc.0 asc.1 in (r.0, rw yes-w r.1, (let z = r.2 in omega arith)))
      (λ j. last_least ws (next a w) k asc.1 j yes-k) (Memᴰ.cases_cons i)

-- an event that is one of the thread
of_thread : (h : ℕ) (o : Option Event) → by_thread h o ≡ true → (e : Event) × (o ≡ Some e) × (e.thread ≡ h)
of_thread h None is = absurd (false≢true is)
of_thread h (Some e) is = (e, refl, eqb-true e.thread h is)

pub runs_threads : (t : List Event) (es ws : List ℕ) → Leaves t es ws → Ascending ws → RunsThreads t ws
runs_threads t es ws leaves asc k e at-k = (there, back)
  where
    there : Memᴰ k ws → (last : ℕ) × (last_of t e.thread ws ≡ Some last) × (k ≤ last)
    there i = last_least t e.thread ws None k asc i (rw at-k (eq-eqb e.thread e.thread refl))

    back : (last : ℕ) × (last_of t e.thread ws ≡ Some last) × (k ≤ last) → Memᴰ k ws
    back r = ⊎_elim found (λ none. absurd (grind arith)) (last_is t e.thread ws None r.0 r.1)
      where
        found : Memᴰ r.0 ws × (by_thread e.thread (slice_get t r.0) ≡ true) → Memᴰ k ws
        found m = ⊎_elim before (λ same. subst (λ (n : ℕ). Memᴰ n ws) (sym same) m.0) (cases_le k r.0 r.2)
          where
            before : k < r.0 → Memᴰ k ws
            before lt =
                let s = stands m.0 in
                let f = of_thread e.thread (slice_get t r.0) m.1 in
                of_front s (leaves.correct.thread_prefix s.front s.back k r.0 s.split
                (record { before = lt; first = e; second = f.0; first_is = at-k; second_is = f.1; same_thread = sym f.2 }))

            cases_le : (a b : ℕ) → a ≤ b → (a < b) ⊎ (a ≡ b)
            cases_le a b le = ⊎_elim inl (λ g. inr (omega arith)) (cases_lt a b)
