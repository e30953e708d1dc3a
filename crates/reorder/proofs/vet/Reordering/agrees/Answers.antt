use Rattle.std.proofs.Common.{refl, arith}
use mathlib.Core.Logic.Iff
use Rattle.reorder.proofs.Agreeing.{read_agrees}
use Rattle.reorder.proofs.Acquires.{inner_agrees, outer_agrees, other_agrees, join_agrees}
use Rattle.reorder.proofs.vet.Reordering.agrees.Goals as goal

pub returns-in-Read : goal.returns-in-Read
returns-in-Read g c = λ is enabled.
    read_agrees (g.R.Reel.events c.args.self.now.reel.now) c.args.self.now.list.now c.args.position c.args.event.now c.latest_write.result
    c.last_write.result c.eq.result c.in-Read.is c.latest_write.ensures c.last_write.ensures c.eq.ensures is

pub returns-then-depth-gt0 : goal.returns-then-depth-gt0
returns-then-depth-gt0 g c = λ is enabled.
    let s = c.args.self.now in
    inner_agrees (g.R.Reel.events s.reel.now) s.list.now s.reorders s.check s.told c.args.position c.args.event.now c.in-Acquire.is is enabled
    c.depth.result c.depth.ensures c.if-depth-gt0.true

pub returns-else-depth-gt0 : goal.returns-else-depth-gt0
returns-else-depth-gt0 g c = λ is enabled.
    let s = c.args.self.now in
    outer_agrees (g.R.Reel.events s.reel.now) s.list.now s.reorders s.check s.told c.args.position c.args.event.now c.in-Acquire.is is enabled
    c.acquired_before.result (omega (arith, c.depth.ensures, c.if-depth-gt0.false)) c.acquired_before.ensures

pub returns-in-Join : goal.returns-in-Join
returns-in-Join g c = λ is enabled.
    let s = c.args.self.now in
    Iff.trans c.has_before.ensures (join_agrees (g.R.Reel.events s.reel.now) s.list.now c.args.position c.args.event.now is c.in-Join.is)

pub returns-in-Write : goal.returns-in-Write
returns-in-Write g c = λ is enabled.
    let s = c.args.self.now in
    let kind = c.in-Write.is in
    let same = other_agrees (g.R.Reel.events s.reel.now) s.list.now c.args.position c.args.event.now is (λ q. absurd (grind arith))
    (λ q. absurd (grind arith)) (λ q. absurd (grind arith)) in
    (λ q. same, λ a. refl)
