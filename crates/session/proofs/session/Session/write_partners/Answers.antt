use Rattle.std.proofs.Common.{rules}
use Rattle.answer.proofs.Collecting.{adds_filled, filled_as}
use Rattle.session.proofs.Partnering.{map_same}
use Rattle.session.proofs.session.Session.write_partners.Goals as goal

pub returns : goal.returns
returns g c =
    let p = c.collect_partners.ensures in
    let lender = p.2.lender in
    let filled = adds_filled p.2 c.args.buffer.now c.over-out.ensures.entries c.over-out.ensures.written in
    rw c.answer.ensures (p.0, p.1, filled_as (search rules) (rw (map_same p.0) at filled))
