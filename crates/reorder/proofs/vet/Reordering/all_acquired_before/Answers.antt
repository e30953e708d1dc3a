use Rattle.std.proofs.Common.{◌≡◌, ◌<◌, ℕ, rules}
use Rattle.std.proofs.lemmas.Iterator.{YieldsList-from_slice, cases_from_all}
use borrow.Author.Tests.{tests}
use Rattle.trace.specs.declared.event.Event.{Event}
use Rattle.trace.specs.declared.kind.Kind.TheVariants.{Acquire}
use Rattle.trace.specs.Traces.{At}
use Rattle.reorder.proofs.Members.{each_answered}
use Rattle.reorder.proofs.vet.Reordering.all_acquired_before.Goals as goal

pub returns : goal.returns
returns g c =
    let t = g.R.Reel.events c.args.self.now.reel.now in
    let P : ℕ → Type 0 = λ a. (e : Event) → At t a e → e.kind ≡ Acquire → e.subject ≡ c.args.lock → a < c.args.position in
    each_answered P c.args.self.now.list.now c.all.result (cases_from_all _ _ c.all.result P (λ e. P e → ⊥) c.all.ensures.ran
    (YieldsList-from_slice c.args.self.now.list.now cc) (λ x q k. search (rules, tests)) (λ x q k. search (rules, tests)))
