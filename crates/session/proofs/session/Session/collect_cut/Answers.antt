use Rattle.std.proofs.Common.{◌≡◌, length, ◌∙◌, arith}
use Rattle.reel.proofs.Left.{passes_some, passes_end}
use Rattle.predict.specs.Held.{held}
use Rattle.predict.proofs.Inside.{seen_first, seen_held}
use Rattle.session.proofs.Listings.{listing_more, listing_skip}
use Rattle.session.proofs.session.Session.collect_cut.Goals as goal
use Rattle.session.proofs.session.Session.collect_cut.Goals.{then-holds, else-holds}

pub loop-position-preserved : goal.loop-position-preserved
loop-position-preserved g c =
    let t = c.args.self.now.trace in
    let bs = c.args.cut.now.bounds in
    let k = c.loop-position.position in
    let i = c.loop-position.invariant in
    let seen = seen_first t bs k c.in-Some.event _ _ i.1 c.in-Some.ensures.steps c.holds.ensures in
    let next = passes_some t k c.in-Some.event _ _ i.1 c.in-Some.ensures.steps in
    let within = next.1 in
    elim c.if-holds.branch [
      | then-holds w ↦
          rw w.out-is (listing_more (held t bs) k i.0 (seen_held t bs seen ∙ w.if-holds.true) w.push.ensures, next.2, omega arith)
      | else-holds w ↦ rw w.out-is (listing_skip (held t bs) k i.0 (seen_held t bs seen ∙ w.if-holds.false), next.2, omega arith)
    ]

pub returns : goal.returns
returns g c =
    let t = c.args.self.now.trace in
    let i = c.loop-position.invariant in
    let past = passes_end t c.loop-position.position _ i.1 c.in-None.ensures.steps.0 in
    let all : c.loop-position.position ≡ length t = let n = i.2 in omega arith in
    rw all at i.0
