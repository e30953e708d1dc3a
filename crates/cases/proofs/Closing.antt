-- A closure by computation: positions are brought in one after another, and a test says that they make a closed cut.
use Rattle.std.proofs.Common.{◌≡◌, ℕ, Bool, true, false, not, ◌&&◌, ◌||◌, eqb, ltb, List, [], ◌∷◌, length, refl, inl, inr, ⊎_elim}
use mathlib.Core.List.Memᴰ
use mathlib.Core.List.{Memᴰ}
use Rattle.std.proofs.lemmas.Bool.{false≢true, both_ways, and_parts, and_from, or_cases, or_left, or_right, ltb-true, eqb-true, eq-eqb, cases_Bool, not-true, not_from_false}
use Rattle.trace.specs.declared.event.Event.{Event}
use Rattle.trace.specs.Traces.{Admits}
use Rattle.trace.specs.Cuts.{Positions, In, Cut, Wants, Laws, Closed, Closure, Reached, AllReached}
use Rattle.trace.specs.Cuts.Reached.{seed, wanted}
use Rattle.trace.proofs.Places.{members, in_member}
use Rattle.trace.proofs.Growing.{Grown, empty_cut, grown_cut, grown_reached, wanted_inside}
use Rattle.trace.proofs.Reached.{closure_from}
use Rattle.predict.proofs.Tests.{some_below, some_from, earlier, is_earlier, as_earlier}
use Rattle.predict.proofs.RuleTests.{Test, Decides}

-- some positions with the earlier events of their threads
abbrev pub with_earlier : List Event → List ℕ → Positions
with_earlier t [] k = false
with_earlier t (w ∷ ws) k = eqb k w || (earlier t k w || with_earlier t ws k)

-- one position more brings itself and the earlier events of its thread
one_more : (t : List Event) (ws : List ℕ) (w : ℕ) → Grown t (with_earlier t ws) w (with_earlier t (w ∷ ws))
one_more t ws w = record {
  kept = λ k i. or_right (eqb k w) (earlier t k w || with_earlier t ws k) (or_right (earlier t k w) (with_earlier t ws k) i);
  new = or_left (eqb w w) (earlier t w w || with_earlier t ws w) (eq-eqb w w refl);
  before_new = λ k h. or_right (eqb k w) (earlier t k w || with_earlier t ws k) (or_left (earlier t k w) (with_earlier t ws k) (as_earlier t k w h));
  only = λ k i.
      ⊎_elim (λ e. inr (inl (eqb-true k w e))) (λ r. ⊎_elim (λ e. inr (inr (is_earlier t k w e))) (λ old. inl old) (or_cases (earlier t k w) (with_earlier t ws k) r))
      (or_cases (eqb k w) (earlier t k w || with_earlier t ws k) i);
}

-- each position is a seed, or those behind it in the list want it
abbrev pub brought : Test → List Event → List ℕ → List ℕ → Bool
brought test t ss [] = true
brought test t ss (w ∷ ws) = (ltb w (length t) && (members ss w || test t (with_earlier t ws) w)) && brought test t ss ws

-- each seed is in c
abbrev pub holds : Positions → List ℕ → Bool
holds c [] = true
holds c (s ∷ ss) = c s && holds c ss

holds_each : (c : Positions) (ss : List ℕ) → holds c ss ≡ true → (s : ℕ) → Memᴰ s ss → In s c
holds_each c [] h s m = absurd (Memᴰ.not-nil m)
holds_each c (x ∷ ss) h s (Memᴰ.head e) = rw e (and_parts (c x) (holds c ss) h).0
holds_each c (x ∷ ss) h s (Memᴰ.tail m) = holds_each c ss (and_parts (c x) (holds c ss) h).1 s m

-- c wants no position of the trace that it lacks
abbrev pub lacks_none : Test → List Event → Positions → Bool
lacks_none test t c = not (some_below (λ w. test t c w && not (c w)) (length t))

-- the test that the positions ws, each with the earlier events of its thread, are the closure of the seeds
abbrev pub closes : Test → List Event → List ℕ → List ℕ → Bool
closes test t ss ws = brought test t ss ws && (holds (with_earlier t ws) ss && lacks_none test t (with_earlier t ws))

module _ (wants : Wants) (laws : Laws wants) (test : Test) (decides : Decides wants test) (t : List Event) (admitted : Admits t) where
  -- the positions brought in are a cut that the seeds reach
  brought_cut : (ss ws : List ℕ) → brought test t ss ws ≡ true → Cut t (with_earlier t ws) × AllReached wants t ss (with_earlier t ws)
  brought_cut ss [] h = (empty_cut t, λ k i. absurd (false≢true i))
  brought_cut ss (w ∷ ws) h =
      let (here, rest) = and_parts (ltb w (length t) && (members ss w || test t (with_earlier t ws) w)) (brought test t ss ws) h in
      let (inside, from) = and_parts (ltb w (length t)) (members ss w || test t (with_earlier t ws) w) here in
      let (cut, reached) = brought_cut ss ws rest in
      let new : Reached wants t ss w =
      ⊎_elim (λ m. seed (in_member w ss m)) (λ d. wanted (with_earlier t ws) cut reached (decides.wanted t (with_earlier t ws) w d))
      (or_cases (members ss w) (test t (with_earlier t ws) w) from) in (
        grown_cut t (with_earlier t ws) (with_earlier t (w ∷ ws)) w cut (ltb-true w (length t) inside) (one_more t ws w),
        grown_reached wants t ss (with_earlier t ws) (with_earlier t (w ∷ ws)) w reached new (one_more t ws w),
      )

  -- a cut that lacks nothing that it wants is closed
  closed : (c : Positions) → Cut t c → lacks_none test t c ≡ true → Closed wants t c
  closed c cut h w q =
      ⊎_elim (λ i. i)
      (λ out. absurd (both_ways (some_below (λ v. test t c v && not (c v)) (length t)) (not-true (some_below (λ v. test t c v && not (c v)) (length t)) h)
      (some_from (λ v. test t c v && not (c v)) (length t) w (wanted_inside wants laws t c w admitted cut q)
      (and_from (test t c w) (not (c w)) (decides.passes t c w q) (not_from_false (c w) out)))))
      (cases_Bool (c w))

  -- so where the test passes they are the closure
  pub closure_by : (ss ws : List ℕ) → closes test t ss ws ≡ true → Closure wants t ss (with_earlier t ws)
  closure_by ss ws h =
      let (b, r) = and_parts (brought test t ss ws) (holds (with_earlier t ws) ss && lacks_none test t (with_earlier t ws)) h in
      let (s, l) = and_parts (holds (with_earlier t ws) ss) (lacks_none test t (with_earlier t ws)) r in
      let (cut, reached) = brought_cut ss ws b in
      closure_from wants laws t ss (with_earlier t ws) admitted cut (closed (with_earlier t ws) cut l) (holds_each (with_earlier t ws) ss s) reached
