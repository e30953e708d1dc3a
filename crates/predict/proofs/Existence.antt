-- Seeds of a trace that the trace check admits have a closure under each rule that a test decides.
use Rattle.std.proofs.Common.{◌≡◌, ℕ, zero, suc, ◌<◌, ◌≤◌, Bool, true, false, not, ◌&&◌, List, length, replicate, fold, refl, ◌∙◌, ⊎_elim, arith}
use Rattle.std.proofs.lemmas.Bool.{cases_Bool, both_ways, and_parts, and_from, not-true, not_from_false}
use Rattle.trace.specs.declared.event.Event.{Event}
use Rattle.trace.specs.Traces.{Admits}
use Rattle.trace.specs.Cuts.{Inside, Wants, Laws, Closed, AllReached}
use Rattle.trace.proofs.Growing.{wanted_inside}
use Rattle.predict.specs.Held.{held, taken_in, SeedsWithin, Closes}
use Rattle.predict.proofs.Bounds.{held_cut}
use Rattle.predict.proofs.Lacking.{lacking, lacks_less}
use Rattle.predict.proofs.Growth.{grown_to, wanted_reached, made_closure, empty_reached, taken_whole, seeded_whole}
use Rattle.predict.proofs.Tests.{some_below, some_found_below, some_from}
use Rattle.predict.proofs.RuleTests.{Test, Decides}

module _ (wants : Wants) (laws : Laws wants) (test : Test) (decides : Decides wants test) (t : List Event) (ok : Admits t) where
  -- the cut below some bounds grew until it wants nothing more
  record Grew (start : List ℕ) : Type 0 where
    bounds : List ℕ
    kept : Inside (held t start) (held t bounds)
    closed : Closed wants t (held t bounds)
    reached : (all : List ℕ) → AllReached wants t all (held t start) → AllReached wants t all (held t bounds)

  -- the test of a position that is wanted and missing
  missing : List ℕ → ℕ → Bool
  missing bs w = test t (held t bs) w && not (held t bs w)

  -- one turn, where smaller ones are known
  turn : (bs : List ℕ) → length bs ≡ 16 → ((new : List ℕ) → length new ≡ 16 → lacking (held t new) (length t) < lacking (held t bs) (length t) → Grew new)
      → Grew bs
  unfolding missing
  turn bs whole next = ⊎_elim (λ some. more (some_found_below (missing bs) (length t) some)) done (cases_Bool (some_below (missing bs) (length t)))
    where
      done : some_below (missing bs) (length t) ≡ false → Grew bs
      done none = record { bounds = bs; kept = λ k i. i; closed = closed; reached = λ all old. old }
        where
          closed : Closed wants t (held t bs)
          closed w h = ⊎_elim (λ i. i)
              (λ out. absurd (both_ways _ none
              (some_from (missing bs) (length t) w (wanted_inside wants laws t (held t bs) w ok (held_cut t bs) h)
              (and_from (test t (held t bs) w) (not (held t bs w)) (decides.passes t (held t bs) w h) (not_from_false (held t bs w) out)))))
              (cases_Bool (held t bs w))

      more : (w : ℕ) × (w < length t) × (missing bs w ≡ true) → Grew bs
      more (w, b, h) =
          let (passed, out) = and_parts (test t (held t bs) w) (not (held t bs w)) h in
          let g = grown_to t bs (taken_in t bs w) w whole b refl in
          let r = next (taken_in t bs w) (taken_whole t bs w ∙ whole)
          (lacks_less (held t bs) (held t (taken_in t bs w)) g.kept (length t) w b (not-true (held t bs w) out) g.new) in
          record {
            bounds = r.bounds;
            kept = λ k i. r.kept k (g.kept k i);
            closed = r.closed;
            reached = λ all old. r.reached all (wanted_reached wants t all bs w (held t (taken_in t bs w)) (decides.wanted t (held t bs) w passed) g old);
          }

  grow : (fuel : ℕ) (bs : List ℕ) → length bs ≡ 16 → lacking (held t bs) (length t) ≤ fuel → Grew bs
  grow zero bs whole few = turn bs whole (λ new w less. absurd (omega arith))
  grow (suc fuel) bs whole few = turn bs whole (λ new w less. grow fuel new w (omega arith))

  -- so there is a closure
  pub closes : (ss : List ℕ) → SeedsWithin t ss → (bounds : List ℕ) × Closes wants t ss bounds
  closes ss within =
      let start = replicate 16 0 in
      let mid = fold (taken_in t) start ss in
      let g = grow (lacking (held t mid) (length t)) mid (seeded_whole t ss start refl) (omega arith) in (
        g.bounds,
        made_closure t wants laws ss start mid g.bounds refl refl g.kept (λ a. g.closed) (λ all a old. g.reached all old) ok within
            (empty_reached t wants ss start refl),
      )
