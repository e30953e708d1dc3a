use Rattle.std.proofs.Common.{take, refl, ◌∙◌}
use Rattle.std.proofs.lemmas.List.{take_more, take_all}
use Rattle.std.proofs.lemmas.Bool.{false≢true}
use Rattle.std.proofs.lemmas.Grind.{merely}
use Rattle.reorder.proofs.Members.{at_index}
use Rattle.reorder.proofs.Coming.{reorders_none, reorders_next, comes_at}
use Rattle.reorder.proofs.vet.Reordering.of.Goals as goal

pub invariant_of-so_far : goal.invariant_of-so_far
invariant_of-so_far g c = record { reorders = merely (reorders_none (g.R.Reel.events c.args.reel.now)); told = c.new.ensures }

pub loop-i-init : goal.loop-i-init
loop-i-init g c = record { reel = refl; list = refl; reorders = reorders_none (g.R.Reel.events c.args.reel.now) }

pub loop-i-preserved : goal.loop-i-preserved
loop-i-preserved g c =
    let xs = take c.loop-i.i c.args.list.now in
    let inv = c.loop-i.invariant in
    let comes = rw (inv.reel, inv.list, c.from.ensures) at (c.if-not-goes_on.ensures.answered.right.0 refl) in
    record {
      reel = c.goes_on.ensures.same ∙ inv.reel;
      list = c.goes_on.ensures.longer c.if-not-goes_on.false;
      reorders = rw (take_more c.args.list.now c.loop-i.i 0 c.loop-i-test.true) (reorders_next (g.R.Reel.events c.args.reel.now) xs _ inv.reorders comes);
    }

pub returns-then-not-goes_on-clause-decided : goal.returns-then-not-goes_on-clause-decided
returns-then-not-goes_on-clause-decided g c =
    let place = at_index c.args.list.now c.loop-i.i 0 c.loop-i-test.true in
    let inv = c.loop-i.invariant in (
      λ q. absurd (false≢true q),
      λ r. c.if-not-goes_on.ensures.answered.right.1 (rw (inv.reel, inv.list, c.from.ensures)
          (comes_at (g.R.Reel.events c.args.reel.now) r place)),
    )

pub returns-clause-decided : goal.returns-clause-decided
returns-clause-decided g c = (λ q. rw (take_all c.loop-i.i c.args.list.now c.loop-i-test.false) at c.loop-i.invariant.reorders, λ r. refl)
