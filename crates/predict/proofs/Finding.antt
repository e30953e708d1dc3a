-- What an iterator's search finds: the latest event before a position.
use Rattle.std.proofs.Common.{◌≡◌, ℕ, zero, suc, ◌+◌, ◌-◌, ◌<◌, ◌≤◌, Bool, true, false, cond, eqb, ◌&&◌, List, [], ◌∷◌, length, Some, None, Option, MatchOption, Bor, sym, refl, ap, ◌∙◌, subst, add-one, arith}
use Rattle.std.specs.Fn.{Mut, CalledAt}
use Rattle.std.specs.Iterator.{FindsItem}
use Rattle.std.specs.Iterator.Adapters.{rev_steps}
use Rattle.std.specs.declared.ops.Range.{Range}
use Rattle.std.specs.declared.iter.Rev.{Rev}
use Rattle.std.proofs.iter.runs.Sources.{nat_range_steps_back}
use Rattle.std.specs.List.{FoldsTo}
use Rattle.std.specs.List.{slice_get}
use Rattle.std.proofs.lemmas.Bool.{cond-true, cond-false, eq-eqb, ne_eqb}
use Rattle.trace.specs.declared.event.Event.{Event}
use Rattle.trace.specs.declared.kind.Kind.{Kind}
use Rattle.trace.specs.declared.kind.Kind.TheVariants.{Read, Write, Acquire, Release, Spawn, Join}
use Rattle.trace.specs.Traces.{At, deeper, Outer}
use Rattle.trace.proofs.Sections.{outer_after}
use Rattle.trace.specs.Lookups.{fits_here, latest, reading, of_thread, writes, from_event, previous, last_write, depth_past, freeing, release_of, spawns, or_found}
use Rattle.predict.specs.Parts.{outer_release_of}

module _ (fits : Event → Bool) (t : List Event) where
  -- the latest before the next position is k, if its event fits, and else the latest before k
  pub latest_here : (k : ℕ) → fits_here fits (slice_get t k) ≡ true → latest fits t (k + 1) ≡ Some k
  latest_here k h = rw add-one (cond-true (fits_here fits (slice_get t k)) (Some k) (latest fits t k) h)

  pub latest_skip : (k : ℕ) → fits_here fits (slice_get t k) ≡ false → latest fits t (k + 1) ≡ latest fits t k
  latest_skip k h = rw add-one (cond-false (fits_here fits (slice_get t k)) (Some k) (latest fits t k) h)

-- `find` down to the start, where each call tells whether the event at the position fits
module _ {F : Type 0} {g : Mut F (Bor ℕ × Unit {0}) Bool} (f : F) (fits : Event → Bool) (t : List Event)
    (tells : (k : ℕ) (b : Bool) (q : F) → CalledAt g f k b q → (q ≡ f) × (b ≡ fits_here fits (slice_get t k))) where
  again : (k : ℕ) (q : F) (xs : List ℕ) (last : F) → CalledAt g f k false q → FoldsTo (λ p x r. CalledAt g p x false r) q xs last
      → FoldsTo (λ p x r. CalledAt g p x false r) f xs last
  again k q xs last call rest = subst (λ (p : F). FoldsTo (λ p x r. CalledAt g p x false r) p xs last) (tells k false q call).0 rest

  downwards : (s : Rev (Range ℕ)) (r : Option ℕ) (u : Rev (Range ℕ)) → s.iter.start ≡ 0 → FindsItem (rev_steps nat_range_steps_back) g s f r u
      → r ≡ latest fits t s.iter.end
  downwards s None u low ([], last, (mid, same, (start, (gap, end))), calls, hit) =
      let none : s.iter.end ≡ 0 = omega (arith, low, gap, ap (λ (v : Rev (Range ℕ)). v.iter.start) same, ap (λ (v : Rev (Range ℕ)). v.iter.end) same) in
      rw none
  downwards s (Some k) u low ([], last, (mid, same, (start, (gap, is, end))), calls, (q, call)) =
      let here : s.iter.end ≡ k + 1 = omega (arith, is, end, ap (λ (v : Rev (Range ℕ)). v.iter.end) same) in
      rw here (sym (latest_here fits t k (sym (tells k true q (subst (λ (p : F). CalledAt g p k true q) (sym calls) call)).1)))
  downwards s r u low (x ∷ xs, last, (mid, (next, (start, (gap, is, end)), rest), ends), (q, call, calls), hit) =
      let here : s.iter.end ≡ x + 1 = omega (arith, is, end) in
      downwards next r u (start ∙ low) (xs, last, (mid, rest, ends), again x q xs last call calls, hit)
      ∙ rw (here, ← is) (sym (latest_skip fits t x (sym (tells x false q call).1)))

  pub finds_latest : (n : ℕ) (s : Rev (Range ℕ)) (r : Option ℕ) (u : Rev (Range ℕ)) → s.iter ≡ record { start = 0; end = n }
      → FindsItem (rev_steps nat_range_steps_back) g s f r u → r ≡ latest fits t n
  finds_latest n s r u from found = downwards s r u (ap (λ (v : Range ℕ). v.start) from) found ∙ ap (λ (v : Range ℕ). latest fits t v.end) from

-- where a search starts: from the event at a position, which for a last write is a read
pub previous_search : (t : List Event) (k : ℕ) (e : Event) → Some e ≡ slice_get t k
    → or_found (latest (of_thread e.thread) t k) (latest (spawns e.thread) t k) ≡ previous t k
previous_search t k e i = ap (from_event (λ f. or_found (latest (of_thread f.thread) t k) (latest (spawns f.thread) t k))) i

-- where a second lookup is made only if the first finds nothing, the first of the two that finds something tells
pub found_either : (o p r : Option ℕ) → MatchOption o (r ≡ p) (λ w. r ≡ Some w) → r ≡ or_found o p
found_either None p r q = q
found_either (Some x) p r q = q

pub write_search : (t : List Event) (k : ℕ) (e : Event) → At t k e → e.kind ≡ Read → last_write t k ≡ latest (writes e.subject) t k
write_search t k e i read = rw i (cond-true (reading e.kind) (latest (writes e.subject) t k) None (ap reading read))

-- a thread is once in a lock after an outer acquire, so the search from there finds the release
pub outer_release : (t : List Event) (a : ℕ) (e : Event) → Outer t a e → outer_release_of t a ≡ release_of t a
outer_release t a e o = rw o.is (ap (λ n. freeing e.thread e.subject t n (suc a) (length t - suc a)) (sym (outer_after t a e o)))

-- the search for a release goes on event by event: it starts behind the acquire,
module _ (t : List Event) where
  pub release_start : (a : ℕ) (e : Event) → Some e ≡ slice_get t a
      → outer_release_of t a ≡ freeing e.thread e.subject t 1 (a + 1) (length t - (a + 1))
  release_start a e i =
      rw add-one (ap (from_event (λ f. freeing f.thread f.subject t 1 (suc a) (length t - suc a))) (sym i))

  module _ (p l depth k next : ℕ) (is : next ≡ depth_past p l depth (slice_get t k)) where
    split : (n m : ℕ) → n ≡ suc m → freeing p l t depth k n ≡ cond (eqb next 0) (Some k) (freeing p l t next (suc k) m)
    split n m q = rw (q, is) refl

    -- ends where the thread is out of the lock,
    pub release_here : k < length t → next ≡ 0 → freeing p l t depth k (length t - k) ≡ Some k
    release_here b out = split (length t - k) (length t - suc k) (omega arith) ∙ rw (eq-eqb next 0 out) refl

    -- and else goes on at the next position,
    pub release_next : k < length t → (next ≡ 0 → ⊥) → freeing p l t depth k (length t - k) ≡ freeing p l t next (k + 1) (length t - (k + 1))
    release_next b in_lock = rw add-one (split (length t - k) (length t - suc k) (omega arith) ∙ rw (ne_eqb next 0 in_lock) refl)

  -- up to the end of the trace
  pub release_end : (p l depth k : ℕ) → length t ≤ k → freeing p l t depth k (length t - k) ≡ None
  release_end p l depth k b = let none : length t - k ≡ 0 = omega arith in rw none refl

-- an event on a lock makes it one deeper at most
pub deeper_no_more : (k : Kind) (n : ℕ) → deeper k n ≤ n + 1
deeper_no_more Read n = omega arith
deeper_no_more Write n = omega arith
deeper_no_more Acquire n = omega arith
deeper_no_more Spawn n = omega arith
deeper_no_more Join n = omega arith
deeper_no_more Release zero = omega arith
deeper_no_more Release (suc n) = omega arith

pub past_no_more : (p l n : ℕ) (o : Option Event) → depth_past p l n o ≤ n + 1
past_no_more p l n None = omega arith
past_no_more p l n (Some e) = of_test (eqb e.thread p && eqb e.subject l)
  where
    of_test : (b : Bool) → cond b (deeper e.kind n) n ≤ n + 1
    of_test true = deeper_no_more e.kind n
    of_test false = omega arith
