use Rattle.std.proofs.Common.{rules}
use Rattle.trace.specs.Lookups.{spawns}
use Rattle.predict.proofs.Finding.{finds_latest}
use Rattle.predict.proofs.lookup.latest_spawn.Goals as goal

pub returns : goal.returns
returns g c =
    let t = g.R.Reel.events c.args.reel.now in
    finds_latest _ (spawns c.args.thread) t (λ k b q call. search rules) c.args.position _ _ _ c.rev.ensures.source c.find.ensures.ran
