use Rattle.std.proofs.Common.{rules}
use Rattle.predict.proofs.RuleParts.{sync_misses}
use Rattle.predict.proofs.rules.SyncRuleRule.missing.Goals as goal

pub returns : goal.returns
returns g c =
    let h = sync_misses (g.R.Reel.events c.args.reel.now) c.args.cut.now.bounds c.missing_write.result c.or_else.result c.or_else-2.result
    c.missing_write.ensures (search rules) (search rules) in
    record { outside = h.outside; exact = h.exact }
