use Rattle.std.proofs.Common.{◌≡◌, length, sym, ap, ◌∙◌, arith}
use Rattle.trace.specs.Records.{meaning}
use Rattle.trace.specs.Faults.{record_number, told}
use Rattle.trace.proofs.Records.{meaning_known, kind_found, meaning_back}
use Rattle.trace.proofs.record.decode.Goals as goal

pub returns-in_ok-kind-in-len8-clause-back : goal.returns-in_ok-kind-in-len8-clause-back
returns-in_ok-kind-in-len8-clause-back c = λ e is.
    let bytes = c.args.record.now in
    let k = c.in_ok-kind-in-len8.kind in
    let long : length bytes ≡ 8 = omega (arith, c.in-len8.len_at_least, c.in-len8.len_below) in
    let known = meaning_known bytes k long (kind_found _ _ k c.in_ok-kind-in-len8.ensures) in
    let answer = rw (c.from_le_bytes-subject.ensures, c.from_le_bytes-site.ensures) at c.event_of.ensures in
    meaning_back bytes e (λ i. (c.type_inv.record i).fits) (known ∙ sym answer ∙ ap (told record_number) is)
