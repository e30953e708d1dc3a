use Rattle.std.proofs.Common.{rules}
use Rattle.answer.proofs.Collecting.{adds_filled, filled_as}
use Rattle.session.proofs.session.Session.write_cut.Goals as goal

pub returns : goal.returns
returns g c =
    let a = c.collect_cut.ensures in
    let lender = a.lender in
    rw c.answer.ensures (filled_as (search rules) (adds_filled a c.args.buffer.now c.over-out.ensures.entries c.over-out.ensures.written))
