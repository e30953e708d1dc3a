use Rattle.std.proofs.Common.{rules}
use Rattle.predict.proofs.RuleParts.{before_misses}
use Rattle.predict.proofs.rules.HappensBeforeRuleRule.missing.Goals as goal

pub returns : goal.returns
returns g c =
    let h = before_misses (g.R.Reel.events c.args.reel.now) c.args.cut.now.bounds c.missing_earlier_release.result c.or_else.result
    c.missing_earlier_release.ensures (search rules) in
    record { outside = h.outside; exact = h.exact }
