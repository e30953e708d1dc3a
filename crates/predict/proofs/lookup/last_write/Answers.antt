use Rattle.std.proofs.Common.{sym, ◌∙◌, rules}
use Rattle.trace.specs.Lookups.{writes}
use Rattle.predict.proofs.Finding.{finds_latest, write_search}
use Rattle.predict.proofs.lookup.last_write.Goals as goal

pub returns : goal.returns
returns g c =
    let t = g.R.Reel.events c.args.reel.now in
    let e = c.in_ok-read.read in
    finds_latest _ (writes e.subject) t (λ k b q call. search rules) c.args.position _ _ _ c.rev.ensures.source c.find.ensures.ran
    ∙ sym (write_search t c.args.position e (search rules) (search rules))
