use Rattle.std.proofs.Common.{rules, sym, ◌∙◌, map-id}
use Rattle.std.specs.List.{slice_get}
use Rattle.std.proofs.lemmas.Iterator.{YieldsList-from_map}
use Rattle.std.proofs.lemmas.Iterator.Adapters.{YieldsList-from_rev_slice, option_map_id}
use Rattle.std.proofs.lemmas.Iterator.Consumers.{YieldsList-at}
use Rattle.std.proofs.lemmas.Iterator.Search.{find_from_yields_List}
use borrow.Author.Tests.{tests}
use Rattle.trace.specs.Lookups.{fits_here, writes}
use Rattle.reorder.proofs.Writes.{latest_found}
use Rattle.reorder.proofs.vet.Reordering.latest_write.Goals as goal

pub returns : goal.returns
returns g c =
    let t = g.R.Reel.events c.args.self.now.reel.now in
    let x = c.args.variable in
    let xs = c.args.self.now.list.now in
    let found = find_from_yields_List (λ k. fits_here (writes x) (slice_get t k)) _ _ c.find.result c.find.ensures.ran
    (YieldsList-from_map _ (λ k. k) (YieldsList-at c.map.ensures.source (YieldsList-from_rev_slice xs cc)) c.map.ensures.closure
    (λ x r q k. search rules)) (λ x b q k. search (rules, tests)) in
    latest_found t x c.find.result xs (rw map-id at (sym (option_map_id c.find.result) ∙ found))
