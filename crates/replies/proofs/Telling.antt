-- The lines of calls, each below its words, one call more at a time.
use Rattle.std.proofs.Common.{◌≡◌, ℕ, zero, suc, ◌+◌, ◌≤◌, List, [], ◌∷◌, ◌++◌, length, take, Some, Bor, sym, refl, ap, ◌∙◌, append_assoc, append-nil, add-one, arith}
use Rattle.std.specs.List.{slice_get}
use Rattle.run.specs.declared.Call.{Call}
use Rattle.replies.specs.Replies.{reply_line, reply_lines, told_line, told_lines}

-- no call has no line
pub no_calls : (words : List (Bor (List ℕ))) → told_lines words [] ≡ []
no_calls [] = refl
no_calls (w ∷ words) = refl

-- the next call, which has words
told_next : (words : List (Bor (List ℕ))) (calls : List Call) (k : ℕ) (w : Bor (List ℕ)) (c : Call) → slice_get words k ≡ Some w → slice_get calls k ≡ Some c
    → told_lines words (take (suc k) calls) ≡ told_lines words (take k calls) ++ told_line w.now c
told_next [] calls k w c x y = absurd (grind arith)
told_next (v ∷ words) [] k w c x y = absurd (grind arith)
told_next (v ∷ words) (d ∷ calls) zero w c x y =
    let a : v ≡ w = cc in
    let b : d ≡ c = cc in
    rw (a, b, no_calls words) (append-nil (told_line w.now c))
told_next (v ∷ words) (d ∷ calls) (suc k) w c x y =
    ap (λ (t : List ℕ). told_line v.now d ++ t) (told_next words calls k w c x y)
    ∙ sym (append_assoc (told_line v.now d) (told_lines words (take k calls)) (told_line w.now c))

pub told_more : (words : List (Bor (List ℕ))) (calls : List Call) (k : ℕ) (w : Bor (List ℕ)) (c : Call) → slice_get words k ≡ Some w → slice_get calls k ≡ Some c
    → told_lines words (take (k + 1) calls) ≡ told_lines words (take k calls) ++ told_line w.now c
told_more words calls k w c x y = rw add-one (told_next words calls k w c x y)

-- the next call, which stands behind the last words
alone_next : (words : List (Bor (List ℕ))) (calls : List Call) (k : ℕ) (c : Call) → length words ≤ k → slice_get calls k ≡ Some c
    → told_lines words (take (suc k) calls) ≡ told_lines words (take k calls) ++ reply_line c
alone_next [] [] k c h y = absurd (grind arith)
alone_next (w ∷ words) [] k c h y = absurd (grind arith)
alone_next [] (d ∷ calls) zero c h y =
    let b : d ≡ c = cc in
    rw b (append-nil (reply_line c))
alone_next (w ∷ words) (d ∷ calls) zero c h y = absurd (omega arith)
alone_next [] (d ∷ calls) (suc k) c h y =
    ap (λ (t : List ℕ). reply_line d ++ t) (alone_next [] calls k c (omega arith) y)
    ∙ sym (append_assoc (reply_line d) (reply_lines (take k calls)) (reply_line c))
alone_next (w ∷ words) (d ∷ calls) (suc k) c h y =
    ap (λ (t : List ℕ). told_line w.now d ++ t) (alone_next words calls k c (omega arith) y)
    ∙ sym (append_assoc (told_line w.now d) (told_lines words (take k calls)) (reply_line c))

pub alone_more : (words : List (Bor (List ℕ))) (calls : List Call) (k : ℕ) (c : Call) → length words ≤ k → slice_get calls k ≡ Some c
    → told_lines words (take (k + 1) calls) ≡ told_lines words (take k calls) ++ reply_line c
alone_more words calls k c h y = rw add-one (alone_next words calls k c h y)
