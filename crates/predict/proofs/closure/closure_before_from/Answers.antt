use Rattle.std.proofs.Common.{ap, ◌∙◌, rules}
use Rattle.std.specs.Slice.Iter.{iter_rest}
use Rattle.std.proofs.lemmas.Iterator.{YieldsList-from_slice}
use Rattle.std.proofs.lemmas.Iterator.Consumers.{YieldsList-from_filter_map}
use Rattle.trace.specs.Lookups.{previous, previous_events}
use Rattle.trace.proofs.Seeds.{seeds_within}
use Rattle.predict.proofs.Seeding.{drained, previous_filtered}
use Rattle.predict.proofs.Growth.{made_closure}
use Rattle.predict.proofs.closure.closure_before_from.Goals as goal

pub returns : goal.returns
returns g c = λ ok.
    let t = g.R.Reel.events c.args.reel.now in
    let es = c.args.events.now in
    let (ss, drains, is) = c.with_seeds.ensures in
    let seeds =
    drained ss drains
    (YieldsList-from_filter_map _ (previous t) (YieldsList-from_slice es (ap iter_rest c.filter_map-seeds.ensures.source ∙ c.iter.ensures.rest)) c.filter_map-seeds.ensures.closure (λ k o q call. search rules))
    ∙ previous_filtered t es in
    made_closure t g.S.Rule.wants g.met.S.Rule.lawful (previous_events t es) c.args.start.bounds
    c.with_seeds.result.bounds c.grown.result.bounds c.args.start.whole (rw seeds at is) c.grown.ensures.kept
    c.grown.ensures.closed c.grown.ensures.reached ok (seeds_within t es)
