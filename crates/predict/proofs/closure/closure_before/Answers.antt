use Rattle.trace.specs.Lookups.{previous_events}
use Rattle.predict.proofs.Growth.{empty_reached}
use Rattle.predict.proofs.closure.closure_before.Goals as goal

pub returns : goal.returns
returns g c = λ ok.
    let t = g.R.Reel.events c.args.reel.now in
    c.closure_before_from.ensures ok
    (empty_reached t g.S.Rule.wants (previous_events t c.args.events.now) c.empty.result.bounds c.empty.ensures)
