use Rattle.std.proofs.Common.{arith}
use Rattle.std.proofs.lemmas.Bool.{both_ways}
use Rattle.reorder.proofs.Coming.{enabled_from, previous_in}
use Rattle.reorder.proofs.vet.Reordering.is_enabled.Goals as goal

pub returns-then-not-has : goal.returns-then-not-has
returns-then-not-has g c =
    let s = c.args.self.now in
    let t = g.R.Reel.events s.reel.now in (
      λ r.
          let had = c.has_previous.ensures.0 r in
          enabled_from t s.list.now c.args.position s.reorders (λ i. both_ways c.has.result c.if-not-has.true (c.has.ensures.1 i)) had.0 had.1,
      λ e. c.has_previous.ensures.1 (λ d p. previous_in t e p, e.spawned),
    )

pub returns-else-not-has : goal.returns-else-not-has
returns-else-not-has g c = (λ q. let yes = c.if-not-has.false in absurd (grind arith), λ e. absurd (e.outside (c.has.ensures.0 c.if-not-has.false)))
