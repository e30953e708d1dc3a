-- What is so of two positions of a trace stays so when admitted events are added.
use Rattle.std.proofs.Common.{◌≡◌, ℕ, zero, suc, ◌<◌, ◌≤◌, Bool, ◌↔◌, List, [], ◌∷◌, ◌++◌, length, Some, None, Option, sym, refl, ◌∙◌, subst, ap₂, ⊎_elim, arith}
use mathlib.Core.List.Memᴰ
use mathlib.Core.List.{Memᴰ}
use Rattle.std.specs.List.{slice_get}
use Rattle.trace.specs.declared.event.Event.{Event}
use Rattle.trace.specs.Traces.{at_start, Admits}
use Rattle.trace.specs.Lookups.{latest, of_thread, spawns, or_found, from_event, previous, previous_events}
use Rattle.trace.specs.Reorderings.{Ascending}
use Rattle.trace.specs.Cuts.{Positions, In, Closure, SyncWants, listed}
use Rattle.trace.proofs.Events.{nth_front}
use Rattle.trace.proofs.Holders.{admits_append}
use Rattle.trace.proofs.Rules.{sync_laws}
use Rattle.trace.proofs.Closures.{closure_lasts}
use Rattle.trace.proofs.Seeds.{seeds_of, seeds_within}
use Rattle.trace.proofs.Listing.{listed_within}
use Rattle.trace.proofs.Contains.{contains}
use Rattle.trace.proofs.Exact.{realized}
use Rattle.predict.specs.Held.{held}
use Rattle.predict.proofs.RuleTests.{sync_decided}
use Rattle.predict.proofs.Existence.{closes}
use Rattle.session.specs.Questions.{refusal_of, pair_refusal}
use Rattle.session.specs.Races.{Races, RacingPair, Shows}
use Rattle.session.proofs.Racing.{races_by, apart}

module _ (t u : List Event) where
  latest_longer : (fits : Event → Bool) (k : ℕ) → k ≤ length t → latest fits (t ++ u) k ≡ latest fits t k
  latest_longer fits zero h = refl
  latest_longer fits (suc k) h =
      let same = nth_front t u k (omega arith) in
      rw (same, latest_longer fits k (omega arith)) refl

  previous_longer : (k : ℕ) → k < length t → previous (t ++ u) k ≡ previous t k
  previous_longer k h = rw (nth_front t u k h) (go (slice_get t k))
    where
      go : (o : Option Event) → from_event (λ e. or_found (latest (of_thread e.thread) (t ++ u) k) (latest (spawns e.thread) (t ++ u) k)) o
          ≡ from_event (λ e. or_found (latest (of_thread e.thread) t k) (latest (spawns e.thread) t k)) o
      go None = refl
      go (Some e) = ap₂ or_found (latest_longer (of_thread e.thread) k (omega arith)) (latest_longer (spawns e.thread) k (omega arith))

  -- the checks of two positions of the trace
  pub refusal_longer : (p q : ℕ) → p < length t → q < length t → pair_refusal (t ++ u) p q ≡ pair_refusal t p q
  refusal_longer p q hp hq = ap₂ (refusal_of p q) (nth_front t u p hp) (nth_front t u q hq)

  -- and their race
  module _ (p q : ℕ) (admitted : Admits (t ++ u)) (below : p < q) (inside : q < length t) where
    seeds_same : previous_events (t ++ u) (p ∷ q ∷ []) ≡ previous_events t (p ∷ q ∷ [])
    seeds_same = rw (previous_longer p (omega arith), previous_longer q inside) refl

    pub front : Admits t
    front = ((admits_append at_start t u).0 admitted).0

    -- one cut is the sync closure of their previous events in both traces
    pub one_closure : (c : Positions) × Closure SyncWants t (previous_events t (p ∷ q ∷ [])) c
        × Closure SyncWants (t ++ u) (previous_events (t ++ u) (p ∷ q ∷ [])) c
    one_closure =
        let ss = previous_events t (p ∷ q ∷ []) in
        let c = closes SyncWants sync_laws _ sync_decided t front ss (seeds_within t (p ∷ q ∷ [])) in
        let cut = held t c.0 in (
          cut,
          c.1.closure,
          subst (λ (s : List ℕ). Closure SyncWants (t ++ u) s cut) (sym seeds_same) (closure_lasts SyncWants sync_laws t u ss cut admitted c.1.closure),
        )

    pub races_longer : Races t p q ↔ Races (t ++ u) p q
    races_longer =
        let c = one_closure in
        let now_by = races_by t p q front below c.0 c.1 in
        let then_by = races_by (t ++ u) p q admitted below c.0 c.2 in
        (λ r. then_by.0 (now_by.1 r), λ r. now_by.0 (then_by.1 r))

    pub racing_longer : RacingPair t p q ↔ RacingPair (t ++ u) p q
    racing_longer =
        let same = refusal_longer p q (omega arith) inside in
        (λ h. (same ∙ h.0, races_longer.0 h.1), λ h. (sym same ∙ h.0, races_longer.1 h.1))

-- two ascending lists of the same positions are the same
ascending_same : (xs ys : List ℕ) → Ascending xs → Ascending ys → ((k : ℕ) → Memᴰ k xs → Memᴰ k ys) → ((k : ℕ) → Memᴰ k ys → Memᴰ k xs)
    → xs ≡ ys
ascending_same [] [] a b to from = refl
ascending_same [] (y ∷ ys) a b to from = absurd (Memᴰ.not-nil (from y (Memᴰ.head refl)))
ascending_same (x ∷ xs) [] a b to from = absurd (Memᴰ.not-nil (to x (Memᴰ.head refl)))
ascending_same (x ∷ xs) (y ∷ ys) a b to from = ap₂ (λ (k : ℕ) (ks : List ℕ). k ∷ ks) heads (ascending_same xs ys a.1 b.1 to_tail from_tail)
  where
    heads : x ≡ y
    heads =
        ⊎_elim (λ e. e)
        (λ later. ⊎_elim sym (λ later'. absurd (let m = b.0 x later in let n = a.0 y later' in omega arith)) (Memᴰ.cases_cons (from y (Memᴰ.head refl))))
        (Memᴰ.cases_cons (to x (Memᴰ.head refl)))

    to_tail : (k : ℕ) → Memᴰ k xs → Memᴰ k ys
    to_tail k m = ⊎_elim (λ e. absurd (let l = a.0 k m in let h = heads in omega arith)) (λ n. n) (Memᴰ.cases_cons (to k (Memᴰ.tail m)))

    from_tail : (k : ℕ) → Memᴰ k ys → Memᴰ k xs
    from_tail k m = ⊎_elim (λ e. absurd (let l = b.0 k m in let h = heads in omega arith)) (λ n. n) (Memᴰ.cases_cons (from k (Memᴰ.tail m)))

-- a witness has just the events of the closure
shown : (t : List Event) (p q : ℕ) → Admits t → p < q → (c : Positions) → Closure SyncWants t (previous_events t (p ∷ q ∷ [])) c → (ws : List ℕ) → Shows t p q ws
    → (k : ℕ) → Memᴰ k ws ↔ In k c
shown t p q ok below c closure ws shows k =
    let not_p = (races_by t p q ok below c closure).1 (ws, shows.leaves) in
    let l = realized t (p ∷ q ∷ []) (previous_events t (p ∷ q ∷ [])) c ok (seeds_of t (p ∷ q ∷ [])) closure (apart t p q ok below c closure not_p) in (
      λ m. (listed_within c (length t) k ((shows.least (listed c (length t)) l).0 k m)).0,
      λ i. contains t (p ∷ q ∷ []) (previous_events t (p ∷ q ∷ [])) c ws (seeds_of t (p ∷ q ∷ [])) closure shows.leaves k i,
    )

-- so the witnesses of a pair, in a trace and in a longer one, are the same
pub same_shown : (t u : List Event) (p q : ℕ) → Admits (t ++ u) → p < q → q < length t → (ws vs : List ℕ) → Shows t p q ws → Shows (t ++ u) p q vs → ws ≡ vs
same_shown t u p q ok below inside ws vs s r =
    let c = one_closure t u p q ok below inside in
    let a = shown t p q (front t u p q ok below inside) below c.0 c.1 ws s in
    let b = shown (t ++ u) p q ok below c.0 c.2 vs r in
    ascending_same ws vs s.in_order r.in_order (λ k m. (b k).1 ((a k).0 m)) (λ k m. (a k).1 ((b k).0 m))
