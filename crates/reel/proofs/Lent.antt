-- What lent bytes hold when records are written into them.
use Rattle.std.proofs.Common.{◌≡◌, ℕ, ◌+◌, ◌*◌, ◌<◌, ◌≤◌, List, [], ◌∷◌, ◌++◌, length, take, drop, sym, refl, ap, ◌∙◌, ⊎_elim, append_assoc, append-nil, add-zero, arith, length-append, length-take, take_all, take-append-drop, take_at, drop_at}
use Rattle.std.specs.List.{flat_map}
use Rattle.std.proofs.Math.Seq.{drop-append_seam}
use Rattle.std.proofs.lemmas.Bool.{cases_lt}
use Rattle.std.proofs.lemmas.List.{drop-drop, drop_all, length-take-le, take-append-le}
use Rattle.trace.specs.declared.event.Event.{Event}
use Rattle.trace.specs.Records.{record_of}
use Rattle.reel.specs.Stored.{replaced}
use Rattle.reel.specs.Lent.{overwritten, recorded_in, LentStays, LentRecords, LentTogether}
use Rattle.reel.proofs.Stored.{length_records, length_replaced}

module _ (bytes : List ℕ) (at : ℕ) where
  -- no byte in the place of none
  over_none : overwritten bytes at [] ≡ bytes
  over_none = rw (append-nil (take at bytes), add-zero at, take-append-drop at bytes) (take_all (length bytes) bytes (omega arith))

  -- where the new bytes are within, nothing is cut off
  over_within : (new : List ℕ) → at + length new ≤ length bytes → overwritten bytes at new ≡ replaced bytes at new
  over_within new h = take_all (length bytes) (replaced bytes at new) (let l = length_replaced bytes at new h in omega arith)

  module _ (x y : List ℕ) where
    front : List ℕ
    front = take at bytes ++ x

    -- new bytes in two parts, the first of them within
    twice_within : at + length x ≤ length bytes → overwritten (overwritten bytes at x) (at + length x) y ≡ overwritten bytes at (x ++ y)
    unfolding front
    twice_within h =
        let many : length front ≡ at + length x = omega (arith, length-append (take at bytes) x, length-take at bytes) in
        let long = length_replaced bytes at x h in
        let begun = take_at front (drop (at + length x) bytes) (at + length x) many in
        let behind : drop (at + length x + length y) (replaced bytes at x) ≡ drop (at + length (x ++ y)) bytes =
        let sum : at + length x + length y ≡ at + length (x ++ y) = omega (arith, length-append x y) in
        sym (drop-drop (length y) (at + length x) (replaced bytes at x))
        ∙ ap (drop (length y)) (drop_at front (drop (at + length x) bytes) (at + length x) many)
        ∙ drop-drop (length y) (at + length x) bytes ∙ ap (λ (n : ℕ). drop n bytes) sum in
        rw (over_within x h, long, begun, behind, append_assoc (take at bytes) x y) refl

    -- or past the end
    twice_past : length bytes < at + length x → overwritten (overwritten bytes at x) (at + length x) y ≡ overwritten bytes at (x ++ y)
    unfolding front
    twice_past h =
        let size = length bytes in
        let many : size ≤ length front = omega (arith, length-append (take at bytes) x, length-take at bytes) in
        let cut : overwritten bytes at x ≡ take size front = take-append-le size front (drop (at + length x) bytes) many in
        let long = length-take-le size front many in
        let all = take_all (at + length x) (take size front) (omega arith) in
        let left : overwritten (take size front) (at + length x) y ≡ take size front =
        rw (long, all)
        (take-append-le size (take size front ++ y) _ (omega (arith, length-append (take size front) y)) ∙ take-append-le size (take size front) y (omega arith)
        ∙ take_all size (take size front) (omega arith)) in
        let right : overwritten bytes at (x ++ y) ≡ take size front =
        rw (← append_assoc (take at bytes) x y)
        (take-append-le size (front ++ y) _ (omega (arith, length-append front y)) ∙ take-append-le size front y many) in
        ap (λ (c : List ℕ). overwritten c (at + length x) y) cut ∙ left ∙ sym right

    over_twice : overwritten (overwritten bytes at x) (at + length x) y ≡ overwritten bytes at (x ++ y)
    over_twice = ⊎_elim twice_past twice_within (cases_lt (length bytes) (at + length x))

pub flat_map-append : {A X : Type 0} (f : X → List A) (xs ys : List X) → flat_map f (xs ++ ys) ≡ flat_map f xs ++ flat_map f ys
flat_map-append f [] ys = refl
flat_map-append f (x ∷ xs) ys = ap (λ (zs : List _). f x ++ zs) (flat_map-append f xs ys) ∙ sym (append_assoc (f x) (flat_map f xs) (flat_map f ys))

pub lent_stays : LentStays
lent_stays lent t = rw (drop_all (length t) t (omega arith)) (over_none lent (8 * length t))

-- the records of the events more, written over the bytes
recorded_over : (lent : List ℕ) (t new : List Event) → recorded_in lent t (t ++ new) ≡ overwritten lent (8 * length t) (flat_map record_of new)
recorded_over lent t new = rw (drop-append_seam t new) refl

pub lent_records : LentRecords
lent_records lent t new h =
    let many = length_records new in
    let size : 8 * length t + length (flat_map record_of new) ≡ 8 * length (t ++ new) = omega (arith, length-append t new) in
    recorded_over lent t new ∙ over_within lent (8 * length t) (flat_map record_of new) (omega arith) ∙ rw size refl

pub lent_together : LentTogether
lent_together lent t u v =
    let size : 8 * length (t ++ u) ≡ 8 * length t + length (flat_map record_of u) = omega (arith, length-append t u, length_records u) in
    recorded_over (recorded_in lent t (t ++ u)) (t ++ u) v
    ∙ rw (recorded_over lent t u, size) (over_twice lent (8 * length t) (flat_map record_of u) (flat_map record_of v))
    ∙ ap (overwritten lent (8 * length t)) (sym (flat_map-append record_of u v))
    ∙ sym (recorded_over lent t (u ++ v)) ∙ ap (recorded_in lent t) (sym (append_assoc t u v))

-- what is so of two steps, one after the other, is so of both together
pub recorded_on : (lent : List ℕ) (t n m : List Event) {u v : List Event} {mid last : List ℕ} → u ≡ t ++ n → v ≡ u ++ m → mid ≡ recorded_in lent t u
    → last ≡ recorded_in mid u v → last ≡ recorded_in lent t v
recorded_on lent t n m {u} {v} u_is v_is mid_is last_is =
    last_is ∙ ap (λ (l : List ℕ). recorded_in l u v) mid_is ∙ rw (v_is, u_is) (lent_together lent t n m)

-- the bytes as they are, where no event came
pub lent_same : (lent : List ℕ) (t : List Event) → lent ≡ recorded_in lent t t
lent_same lent t = sym (lent_stays lent t)
