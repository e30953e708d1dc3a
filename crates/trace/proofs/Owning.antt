-- The events of one thread among the positions of a list that has with each position the earlier ones of its thread: they are its first events, so
-- the thread is as deep in a lock after the list as in the trace.
use Rattle.std.proofs.Common.{◌≡◌, ℕ, suc, ◌<◌, ◌≤◌, List, [], ◌∷◌, ◌++◌, take, sym, refl, ap, ◌∙◌, subst, ⊎_elim, append_assoc, append-nil, arith}
use mathlib.Core.List.Memᴰ
use mathlib.Core.List.{Memᴰ}
use Rattle.std.proofs.lemmas.Bool.{cases_eq, cases_lt}
use Rattle.trace.specs.declared.event.Event.{Event}
use Rattle.trace.specs.Traces.{At, EarlierInThread, depth_with, depth}
use Rattle.trace.specs.Reorderings.{picked, Correct}
use Rattle.trace.specs.Depths.{DepthKept}
use Rattle.trace.proofs.Events.{at_same}
use Rattle.trace.proofs.Places.{Stands, at_split, is_member, of_front, in_front}
use Rattle.trace.proofs.Picked.{picked_append}
use Rattle.trace.proofs.Sections.{depth_push, depth_other, before_next, quiet}

-- k is the next of its thread after the positions xs: it is not among them, and the earlier ones of its thread are
pub record InTurn (t : List Event) (xs : List ℕ) (k : ℕ) : Type 0 where
  pub outside : Memᴰ k xs → ⊥
  pub ready : (d : ℕ) → EarlierInThread t d k → Memᴰ d xs

-- positions of the trace, each once and after the earlier ones of its thread
pub record Orderly (t : List Event) (xs : List ℕ) : Type 0 where
  pub in_trace : (k : ℕ) → Memᴰ k xs → (e : Event) × At t k e
  pub in_turn : {k : ℕ} (s : Stands k xs) → InTurn t s.front k

-- a correct reordering is such a list
pub correct_orderly : (t : List Event) (σ : List ℕ) → Correct t σ → Orderly t σ
correct_orderly t σ c = record {
  in_trace = c.in_trace;
  in_turn = λ {k} s. record { outside = c.once s.front s.back k s.split; ready = λ d. c.thread_prefix s.front s.back d k s.split };
}

-- and so is the front of one
pub orderly_front : (t : List Event) (xs : List ℕ) {k : ℕ} → Orderly t xs → (s : Stands k xs) → Orderly t s.front
orderly_front t xs o s = record {
  in_trace = λ m i. o.in_trace m (of_front s i);
  in_turn = λ p. o.in_turn (in_front s p);
}

module _ (t : List Event) (q : ℕ) where
  -- of the thread q the list xs has the events before position n
  pub record Owned (xs : List ℕ) (n : ℕ) : Type 0 where
    pub has : (m : ℕ) (e : Event) → At t m e → e.thread ≡ q → m < n → Memᴰ m xs
    pub only : (m : ℕ) (e : Event) → At t m e → e.thread ≡ q → Memᴰ m xs → m < n
    pub depths : (l : ℕ) → depth q l (picked t xs) ≡ depth q l (take n t)

  -- a position that is the next of its thread is behind these events, with none of the thread between
  module _ (xs : List ℕ) (n k : ℕ) (e : Event) (o : Owned xs n) (i : At t k e) (own : e.thread ≡ q) (en : InTurn t xs k) where
    not_before : n ≤ k
    not_before = ⊎_elim (λ g. absurd (en.outside (o.has k e i own g))) (λ g. g) (cases_lt k n)

    same_depth : (l : ℕ) → depth q l (picked t xs) ≡ depth q l (take k t)
    same_depth l = o.depths l ∙ sym (quiet q l t n k not_before (λ m f g h j r. none m f g h j r))
      where
        none : (m : ℕ) (f : Event) → n ≤ m → m < k → At t m f → f.thread ≡ q → ⊥
        none m f g h j r =
            let member = en.ready m (record { before = h; first = f; second = e; first_is = j; second_is = i; same_thread = r ∙ sym own }) in
            omega (arith, o.only m f j r member)

    -- with it the list has the events of the thread up to it
    owned_own : Owned (xs ++ (k ∷ [])) (suc k)
    owned_own = record {
      has = λ m f j r b. ⊎_elim (λ s. Memᴰ.append_right xs (Memᴰ.head s))
          (λ s. Memᴰ.append_left (k ∷ []) (en.ready m
          (record { before = omega arith; first = f; second = e; first_is = j; second_is = i; same_thread = r ∙ sym own }))) (cases_eq m k);
      only = λ m f j r member. ⊎_elim (λ a. omega (arith, o.only m f j r a, not_before)) (λ a. omega (arith, Memᴰ.eq_of_singleton a))
          (Memᴰ.append_cases xs member);
      depths = λ l.
          ap (depth q l) (picked_append t xs (k ∷ []) ∙ ap (λ es. picked t xs ++ es) (one_picked k e i)) ∙ depth_push q l (picked t xs) e
          ∙ ap (λ n. depth_with q l n e) (same_depth l) ∙ sym (before_next q l t k e i);
    }
      where
        one_picked : (k : ℕ) (e : Event) → At t k e → picked t (k ∷ []) ≡ e ∷ []
        one_picked k e i = rw i refl

  -- and an event of another thread leaves them
  owned_other : (xs : List ℕ) (n k : ℕ) (e : Event) → Owned xs n → At t k e → (e.thread ≡ q → ⊥) → Owned (xs ++ (k ∷ [])) n
  owned_other xs n k e o i other = record {
    has = λ m f j r b. Memᴰ.append_left (k ∷ []) (o.has m f j r b);
    only = λ m f j r member. ⊎_elim (λ a. o.only m f j r a) (λ a. absurd (elsewhere m f j r (Memᴰ.eq_of_singleton a))) (Memᴰ.append_cases xs member);
    depths = λ l.
        ap (depth q l) (picked_append t xs (k ∷ []) ∙ ap (λ es. picked t xs ++ es) one_picked) ∙ depth_push q l (picked t xs) e
        ∙ depth_other q l (depth q l (picked t xs)) e other ∙ o.depths l;
  }
    where
      one_picked : picked t (k ∷ []) ≡ e ∷ []
      one_picked = rw i refl

      elsewhere : (m : ℕ) (f : Event) → At t m f → f.thread ≡ q → m ≡ k → ⊥
      elsewhere m f j r s = other (ap (λ (x : Event). x.thread) (at_same t k e f i (subst (λ (x : ℕ). At t x f) s j)) ∙ r)

  -- so such a list has the events of the thread before some position
  owned_from : (front back : List ℕ) (n : ℕ) → Orderly t (front ++ back) → Owned front n → (m : ℕ) × Owned (front ++ back) m
  owned_from front [] n order o = (n, rw append-nil o)
  owned_from front (k ∷ back) n order o =
      let s : Stands k (front ++ (k ∷ back)) = at_split front back refl in
      let (e, i) = order.in_trace k (is_member s) in
      let joined = append_assoc front (k ∷ []) back in
      let more : (m : ℕ) × Owned (front ++ (k ∷ [])) m =
      ⊎_elim (λ own. (suc k, owned_own front n k e o i own (order.in_turn s))) (λ other. (n, owned_other front n k e o i other)) (cases_eq e.thread q) in
      let r = owned_from (front ++ (k ∷ [])) back more.0 (subst (Orderly t) (sym joined) order) more.1 in
      (r.0, subst (λ xs. Owned xs r.0) joined r.1)

  pub owned : (xs : List ℕ) → Orderly t xs → (n : ℕ) × Owned xs n
  owned xs order = owned_from [] xs 0 order (record { has = λ m e i r b. absurd (omega arith); only = λ m e i r b. absurd (Memᴰ.not-nil b); depths = λ l. refl })

-- before an event that is the next of its thread, the thread is as deep as in the trace
pub depth_in_turn : (t : List Event) (xs : List ℕ) (k : ℕ) (e : Event) → Orderly t xs → At t k e → InTurn t xs k → (l : ℕ)
    → depth e.thread l (picked t xs) ≡ depth e.thread l (take k t)
depth_in_turn t xs k e order i en l = let (n, o) = owned t e.thread xs order in same_depth t e.thread xs n k e o i refl en l

pub depth_kept : DepthKept
depth_kept t σ xs ys k e c split i =
    let s : Stands k σ = at_split xs ys split in
    let o = correct_orderly t σ c in
    depth_in_turn t xs k e (orderly_front t σ o s) i (o.in_turn s) e.subject
