use Rattle.std.proofs.Common.{rules}
use Rattle.answer.proofs.Collecting.{adds_filled, filled_as}
use Rattle.session.proofs.session.Session.sweep.Goals as goal

pub returns : goal.returns
returns g c =
    let p = c.collect_sweep.ensures in
    let lender = p.2.lender in
    let filled = adds_filled p.2 c.args.buffer.now c.over-out.ensures.entries c.over-out.ensures.written in
    rw c.answer.ensures (record { pairs = p.0; all = p.1; written = filled_as (search rules) filled })
