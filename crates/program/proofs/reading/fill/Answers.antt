use Rattle.std.proofs.Common.{rules, ◌≡◌, ℕ, ◌+◌, ◌≤◌, List, ◌++◌, length, take, sym, ap, ◌∙◌, subst, le_refl, arith, length-take-le, take-take}
use Rattle.std.specs.Io.KnownBytes.{Consumes}
use Rattle.std.proofs.KnownBytes.{Consumes-trans, Consumes-kept}
use Rattle.std.proofs.Math.Seq.{take-append-add}
use Rattle.std.proofs.lemmas.Slice.{take-put_mid, take-put_mid_below}
use borrow.Rule.Slice.PartMut.{put_mid}
use Rattle.program.proofs.reading.fill.Goals as goal
use Rattle.program.proofs.reading.fill.Goals.{in-Ok, in-Err+else-ne}

-- the front of a buffer whose part from a on was written, and n places of that part
front_more : (a k n : ℕ) (xs ys : List ℕ) → a ≤ length xs → n ≤ length ys → take a xs ++ take n ys ≡ take (a + n) (put_mid a k xs ys)
front_more a k n xs ys within fits =
    let part = ap (take (a + n)) (take-put_mid a k xs ys (a + length ys) (omega arith) within) in
    let whole = take-take (a + n) (a + length ys) (put_mid a k xs ys) (omega arith) in
    let size = ap (λ (m : ℕ). take (m + n) (take a xs ++ ys)) (length-take-le a xs within) in
    sym (take-append-add (take a xs) ys n) ∙ size ∙ sym part ∙ whole

pub loop-preserved : goal.loop-preserved
loop-preserved g c = elim c.match-read.branch [
  | in-Ok w ↦ rw w.filled-is (
    search rules,
    subst (Consumes _ _) (front_more c.loop.filled _ w.in-Ok.count c.loop.buffer c.read.new.buf c.loop.invariant.0 w.in-Ok.ensures.bound.0)
        (Consumes-trans _ _ _ _ _ c.loop.invariant.1 w.in-Ok.ensures.bytes.0),
  )
  | in-Err+else-ne w ↦ rw w.filled-is (
    search rules,
    subst (Consumes _ _) (sym (take-put_mid_below _ _ _ _ _ (le_refl _) c.loop.invariant.0))
        (Consumes-kept _ _ _ _ c.loop.invariant.1 w.in-Err.ensures.bytes),
  )
]
