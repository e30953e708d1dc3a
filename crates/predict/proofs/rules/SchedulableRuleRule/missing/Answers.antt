use Rattle.std.proofs.Common.{rules}
use Rattle.predict.proofs.RuleParts.{schedulable_misses}
use Rattle.predict.proofs.rules.SchedulableRuleRule.missing.Goals as goal

pub returns : goal.returns
returns g c =
    let h = schedulable_misses (g.R.Reel.events c.args.reel.now) c.args.cut.now.bounds c.missing_earlier_release.result c.or_else.result
    c.or_else-2.result c.missing_earlier_release.ensures (search rules) (search rules) in
    record { outside = h.outside; exact = h.exact }
