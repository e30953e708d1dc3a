use Rattle.std.proofs.Common.{rules}
use Rattle.trace.specs.Lookups.{of_thread}
use Rattle.predict.proofs.Finding.{finds_latest}
use Rattle.predict.proofs.lookup.latest_of_thread.Goals as goal

pub returns : goal.returns
returns g c =
    let t = g.R.Reel.events c.args.reel.now in
    finds_latest _ (of_thread c.args.thread) t (λ k b q call. search rules) c.args.position _ _ _ c.rev.ensures.source c.find.ensures.ran
