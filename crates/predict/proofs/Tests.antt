-- Tests on the positions of a trace that compute, and what they tell.
use Rattle.std.proofs.Common.{◌≡◌, ℕ, zero, suc, ◌<◌, Bool, true, false, ◌&&◌, ◌||◌, eqb, ltb, List, Some, None, Option, refl, ap, ⊎_elim, arith}
use Rattle.std.specs.List.{slice_get}
use Rattle.std.proofs.lemmas.Bool.{false≢true, and_parts, and_from, or_cases, or_left, or_right, ltb-true, lt-ltb, eqb-true, eq-eqb, cases_lt}
use Rattle.trace.specs.declared.event.Event.{Event}
use Rattle.trace.specs.Traces.{EarlierInThread}
use Rattle.trace.specs.Lookups.{fits_here, of_thread}
use Rattle.predict.proofs.Inside.{tested}

-- whether a test passes at a position below n
abbrev pub some_below : (ℕ → Bool) → ℕ → Bool
some_below test zero = false
some_below test (suc n) = test n || some_below test n

-- it does just if there is such a position
pub some_found_below : (test : ℕ → Bool) (n : ℕ) → some_below test n ≡ true → (k : ℕ) × (k < n) × (test k ≡ true)
some_found_below test zero h = absurd (false≢true h)
some_found_below test (suc n) h =
    ⊎_elim (λ here. (n, omega arith, here)) (λ rest. let r = some_found_below test n rest in (r.0, let b = r.1 in omega arith, r.2))
    (or_cases (test n) (some_below test n) h)

pub some_found : (test : ℕ → Bool) (n : ℕ) → some_below test n ≡ true → (k : ℕ) × (test k ≡ true)
some_found test n h = let r = some_found_below test n h in (r.0, r.2)

pub some_from : (test : ℕ → Bool) (n k : ℕ) → k < n → test k ≡ true → some_below test n ≡ true
some_from test zero k b h = absurd (omega arith)
some_from test (suc n) k b h =
    ⊎_elim (λ less. or_right (test n) (some_below test n) (some_from test n k less h))
    (λ more. let e : k ≡ n = omega arith in or_left (test n) (some_below test n) (rw e at h)) (cases_lt k n)

-- whether a lookup found w
abbrev pub finds : Option ℕ → ℕ → Bool
finds None w = false
finds (Some v) w = eqb v w

pub found : (o : Option ℕ) (w : ℕ) → finds o w ≡ true → o ≡ Some w
found None w h = absurd (false≢true h)
found (Some v) w h = ap Some (eqb-true v w h)

pub found_from : (o : Option ℕ) (w : ℕ) → o ≡ Some w → finds o w ≡ true
found_from o w h = rw h (eq-eqb w w refl)

-- whether d is an earlier event of the thread of k
abbrev pub earlier : List Event → ℕ → ℕ → Bool
earlier t d k = ltb d k && fits_here (λ f. fits_here (of_thread f.thread) (slice_get t d)) (slice_get t k)

pub is_earlier : (t : List Event) (d k : ℕ) → earlier t d k ≡ true → EarlierInThread t d k
is_earlier t d k h =
    let (b, r) = and_parts (ltb d k) (fits_here (λ f. fits_here (of_thread f.thread) (slice_get t d)) (slice_get t k)) h in
    let (f, at-k, q) = tested (λ g. fits_here (of_thread g.thread) (slice_get t d)) (slice_get t k) r in
    let (e, at-d, s) = tested (of_thread f.thread) (slice_get t d) q in
    record { before = ltb-true d k b; first = e; second = f; first_is = at-d; second_is = at-k; same_thread = eqb-true e.thread f.thread s }

pub as_earlier : (t : List Event) (d k : ℕ) → EarlierInThread t d k → earlier t d k ≡ true
as_earlier t d k h =
    and_from (ltb d k) (fits_here (λ f. fits_here (of_thread f.thread) (slice_get t d)) (slice_get t k)) (lt-ltb d k h.before)
    (rw (h.second_is, h.first_is) (eq-eqb h.first.thread h.second.thread h.same_thread))
