use Rattle.std.proofs.Common.{◌≡◌, ◌/◌, ◌%◌, bit_and, arith, sym, ◌∙◌}
use Rattle.std.proofs.lemmas.Bool.{eqb-true, eq-eqb}
use Rattle.std.proofs.lemmas.Nat.{and_mask}
use Rattle.session.proofs.length.is_whole.Goals as goal

pub returns : goal.returns
returns c =
    let n = c.args.length in
    let e : bit_and n 7 ≡ n % 8 = and_mask n 3 in (
      λ h. let z = eqb-true (bit_and n 7) 0 h in (n / 8, omega (arith, sym e ∙ z)),
      λ r. eq-eqb (bit_and n 7) 0 (e ∙ omega (arith, r.1)),
    )
