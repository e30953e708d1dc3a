use Rattle.std.proofs.Common.{◌≡◌, ℕ, [], ◌++◌, length, subst, arith}
use Rattle.answer.proofs.Collecting.{adds_none, adds_both}
use Rattle.session.proofs.Sweeping.{SweepBelow, pairs_with, sweep_none, sweep_more, sweep_all}
use Rattle.session.proofs.session.Session.collect_sweep.Goals as goal

pub loop-q-init : goal.loop-q-init
loop-q-init g c = ([], sweep_none c.args.self.now.trace, adds_none)

pub loop-q-preserved : goal.loop-q-preserved
loop-q-preserved g c =
    let i = c.loop-q.invariant in
    let p = c.collect_partners.ensures in
    (i.0 ++ pairs_with c.loop-q.q p.0, sweep_more c.args.self.now.trace i.1 p.1, adds_both i.2 (pairs_with c.loop-q.q p.0) p.2)

pub returns : goal.returns
returns g c =
    let t = c.args.self.now.trace in
    let i = c.loop-q.invariant in
    let all : c.loop-q.q ≡ length t = omega arith in
    (i.0, sweep_all t (subst (λ (n : ℕ). SweepBelow t n i.0) all i.1), i.2)
