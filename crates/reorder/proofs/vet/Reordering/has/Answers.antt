use Rattle.std.proofs.Common.{◌<◌, arith}
use Rattle.std.proofs.Math.Logic.{∥∥₁_elim}
use Rattle.std.proofs.Props.{props}
use Rattle.std.proofs.lemmas.Bool.{false≢true}
use Rattle.trace.proofs.Events.{at_inside}
use Rattle.reorder.proofs.Members.{has_told}
use Rattle.reorder.proofs.vet.Reordering.has.Goals as goal

pub returns-in-Ok : goal.returns-in-Ok
returns-in-Ok g c = rw c.in-Ok.ensures.1 at (has_told c.in-Ok.k c.args.self.now.list.now c.contains.result c.contains.ensures.cases)

pub returns-in-Err : goal.returns-in-Err
returns-in-Err g c =
    let s = c.args.self.now in
    let t = g.R.Reel.events s.reel.now in
    let few = g.R.Reel.few s.reel.now in
    let small = g.R.Reel.small s.reel.now in (
      λ q. absurd (false≢true q),
      λ j. absurd (∥∥₁_elim s.reorders (hlevel props) (λ r.
          let (e, i) = r.correct.in_trace c.args.position j in
          let inside = at_inside t c.args.position e i in
          let fits : c.args.position < 65536 = omega (arith, few, small, inside) in
          c.in-Err.ensures fits)),
    )
