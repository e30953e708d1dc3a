use Rattle.std.proofs.Common.{◌≡◌, refl, subst, IfOk, string_bytes, ℕ, List, ◌++◌, codes, decimal, Result}
use Rattle.answer.specs.Faults.{entry_number}
use Rattle.report.specs.Refusals.{record_words}
use Rattle.report.proofs.refusals.refused_record.Goals as goal

-- what is said of the bytes of a text is said of equal ones
told_equal : {A E : Type 0} (bytes : A → List ℕ) (r : Result A E) (x y : List ℕ) → IfOk r (λ s. bytes s ≡ x) → x ≡ y → IfOk r (λ s. bytes s ≡ y)
told_equal bytes r x y told q = subst (λ z. IfOk r (λ s. bytes s ≡ z)) q told

abbrev line : ℕ → ℕ → List ℕ → List ℕ
line number index words = codes "refused " ++ (decimal number ++ (codes " record " ++ (decimal index ++ (codes ": " ++ (words ++ codes "\n")))))

pub returns : goal.returns
returns c =
    let r = c.args.refused.now in
    told_equal string_bytes c.format.result
    (line c.number-number.result r.index (record_words c.args.room c.record_at-bytes.result.now (entry_number r.fault))) _ c.format.ensures.ok
    (rw (c.number-number.ensures, c.record_at-bytes.ensures) refl)
