-- The first records of an input decide what becomes of it.
use Rattle.std.proofs.Common.{◌≡◌, ℕ, zero, suc, ◌+◌, ◌*◌, ◌≤◌, min, List, [], ◌∷◌, ◌++◌, length, take, drop, Some, None, Ok, Err, Option, Result, sym, refl, ap, ap₂, ◌∙◌, subst, arith, length-append, length-take, take-take}
use Rattle.std.proofs.lemmas.List.{drop-take}
use Rattle.std.proofs.lemmas.Bool.{le-ltb}
use Rattle.trace.specs.declared.event.Event.{Event}
use Rattle.trace.specs.Records.{meaning}
use Rattle.trace.specs.Traces.{standing_after, trace_refusal}
use Rattle.answer.specs.declared.fault.Layer.TheVariants.{Trace, Reel}
use Rattle.answer.specs.Faults.{Refusal}
use Rattle.session.specs.Entries.{Outcome, unless, checked, offered, records, record_count, enter_from, enter_all}
use Rattle.reel.specs.Stored.{room_for}
use Rattle.report.specs.Texts.{After}
use Rattle.report.specs.Reports.{Reported, ReportOf}
use Rattle.report.specs.Deciding.{Deciding}

-- the first m records of some bytes are those of the first 8 m bytes
first_records : (k m c : ℕ) (bytes : List ℕ) → k ≡ min m c → records k (take (8 * m) bytes) ≡ take m (records c bytes)
first_records k zero c bytes is = let none : k ≡ 0 = omega arith in rw none refl
first_records k (suc m) zero bytes is = let none : k ≡ 0 = omega arith in rw none refl
first_records zero (suc m) (suc c) bytes is = absurd (omega arith)
first_records (suc k) (suc m) (suc c) bytes is =
    let fewer : k ≡ min m c = omega arith in
    let size : 8 * suc m ≡ 8 + 8 * m = omega arith in
    let head : take 8 (take (8 * suc m) bytes) ≡ take 8 bytes = take-take 8 (8 * suc m) bytes (omega arith) in
    let tail : drop 8 (take (8 * suc m) bytes) ≡ take (8 * m) (drop 8 bytes) = rw size (drop-take 8 (8 * m) bytes) in
    ap₂ (λ (r : List ℕ) (rs : List (List ℕ)). r ∷ rs) head (ap (records k) tail ∙ first_records k m c (drop 8 bytes) fewer)

module _ (room : ℕ) where
  -- no record is taken where there is no room
  pub no_more : (t : List Event) (i : ℕ) (m : Result Event ℕ) (e : Event) → room ≤ length t → checked room t i m ≡ Ok e → ⊥
  no_more t i (Err n) e full is = grind arith
  no_more t i (Ok d) e full is = by (trace_refusal (standing_after t) d) (rw (le-ltb (length t) room full) at is)
    where
      by : (o : Option ℕ) → unless o Trace i (unless (Some 7) Reel i (Ok d)) ≡ Ok e → ⊥
      by (Some n) r = grind arith
      by None r = grind arith

  -- a record is offered, and then others, which come to the same as these if it is taken
  same_after : (t : List Event) (i : ℕ) (r : List ℕ) (xs ys : List (List ℕ))
      → ((e : Event) → offered room t i r ≡ Ok e → enter_from room (t ++ (e ∷ [])) (i + 1) xs ≡ enter_from room (t ++ (e ∷ [])) (i + 1) ys)
      → enter_from room t i (r ∷ xs) ≡ enter_from room t i (r ∷ ys)
  same_after t i r xs ys next = by (offered room t i r) refl
    where
      by : (o : Result Event Refusal) → offered room t i r ≡ o → enter_from room t i (r ∷ xs) ≡ enter_from room t i (r ∷ ys)
      by (Err f) q = rw q refl
      by (Ok e) q = rw q (next e q)

  -- as many records as there is room for and one more decide
  decided : (k : ℕ) (t : List Event) (i : ℕ) (rs : List (List ℕ)) → room ≤ length t + k
      → enter_from room t i (take (suc k) rs) ≡ enter_from room t i rs
  decided k t i [] fits = refl
  decided zero t i (r ∷ rs) fits = same_after t i r [] rs (λ e q. absurd (no_more t i (meaning r) e (omega arith) q))
  decided (suc j) t i (r ∷ rs) fits =
      same_after t i r (take (suc j) rs) rs (λ e q. decided j (t ++ (e ∷ [])) (i + 1) rs (omega (arith, length-append t (e ∷ []))))

pub deciding : Deciding
deciding room n input enough =
    sym (first room (take n input)) ∙ ap (enter_all room []) (take-take (8 * suc room) n input (omega arith)) ∙ first room input
  where
    -- the first records alone
    first : (room : ℕ) (bytes : List ℕ) → enter_all room [] (take (8 * suc room) bytes) ≡ enter_all room [] bytes
    first room bytes =
        let few : record_count (take (8 * suc room) bytes) ≡ min (suc room) (record_count bytes) = omega (arith, length-take (8 * suc room) bytes) in
        ap (enter_from room [] 0) (first_records (record_count (take (8 * suc room) bytes)) (suc room) (record_count bytes) bytes few)
        ∙ decided room room [] 0 (records (record_count bytes) bytes) (omega arith)

-- so the bytes that there are to keep events in, and eight more, decide what is printed
module _ (size : ℕ) (input : List ℕ) where
  same : enter_all (room_for size) [] (take (size + 8) input) ≡ enter_all (room_for size) [] input
  same = deciding (room_for size) (size + 8) input (omega arith)

  module _ (s : List ℕ) where
    pub report_decided : ReportOf (room_for size) (take (size + 8) input) s → ReportOf (room_for size) input s
    report_decided made = subst (λ (o : Outcome ℕ). After Reported o.answer o.events s) same made
