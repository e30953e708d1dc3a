use Rattle.std.proofs.Common.{rules}
use Rattle.std.proofs.lemmas.Iterator.{YieldsList-from_slice, cases_from_all}
use borrow.Author.Tests.{tests}
use Rattle.trace.specs.Reorderings.{Enabled}
use Rattle.reorder.proofs.Members.{each_answered}
use Rattle.reorder.proofs.vet.Reordering.leaves_enabled.Goals as goal

pub returns : goal.returns
returns g c =
    let P = Enabled (g.R.Reel.events c.args.self.now.reel.now) c.args.self.now.list.now in
    each_answered P c.args.events.now c.all.result (cases_from_all _ _ c.all.result P (λ e. P e → ⊥) c.all.ensures.ran
    (YieldsList-from_slice c.args.events.now cc) (λ x q k. search (rules, tests)) (λ x q k. search (rules, tests)))
