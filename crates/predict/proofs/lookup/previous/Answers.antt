use Rattle.std.proofs.Common.{refl, ◌∙◌, rules, ap₂}
use Rattle.trace.specs.Lookups.{latest, of_thread, spawns, or_found}
use Rattle.predict.proofs.Finding.{found_either, previous_search}
use Rattle.predict.proofs.lookup.previous.Goals as goal

pub returns : goal.returns
returns g c =
    let t = g.R.Reel.events c.args.reel.now in
    let e = c.in_ok-thread.field-0 in
    let k = c.args.position in
    found_either c.latest_of_thread.result (latest (spawns e.thread) t k) c.or_else.result (search rules)
    ∙ ap₂ or_found c.latest_of_thread.ensures refl
    ∙ previous_search t k e c.in_ok-thread.ensures
