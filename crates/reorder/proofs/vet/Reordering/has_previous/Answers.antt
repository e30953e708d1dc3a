use mathlib.Core.Logic.Iff
use Rattle.std.proofs.Common.{sym}
use Rattle.reorder.proofs.Acquires.{had_by}
use Rattle.reorder.proofs.vet.Reordering.has_previous.Goals as goal

pub returns-in-Some : goal.returns-in-Some
returns-in-Some g c =
    let s = c.args.self.now in
    Iff.trans (rw c.from.ensures at c.has_before.ensures) (had_by (g.R.Reel.events s.reel.now) s.list.now c.args.position c.in-Some.event s.reorders
    (sym c.in-Some.ensures))
