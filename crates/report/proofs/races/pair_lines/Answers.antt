use Rattle.std.proofs.Common.{sym, ◌∙◌, arith}
use Rattle.report.specs.Reports.RaceLines.{none}
use Rattle.report.proofs.Pairs.{partner_event, partner_more}
use Rattle.report.proofs.races.pair_lines.Goals as goal

pub loop-partner-init : goal.loop-partner-init
loop-partner-init g c = rw c.new-text.ensures.bytes none

pub unreachable-requires : goal.unreachable-requires
unreachable-requires g c =
    partner_event c.args.session.now.trace c.args.later.position c.args.partners.now c.requires.partners c.loop-partner.partner-index c.from-p.result (omega arith)
    c.from-p.ensures (sym c.in_default.is ∙ c.event.ensures)

pub loop-partner-preserved : goal.loop-partner-preserved
loop-partner-preserved g c =
    rw c.in_ok-write.ensures.bytes
    (partner_more c.args.session.now.trace c.args.later.position c.args.partners.now c.requires.partners c.loop-partner.partner-index c.from-p.result
    c.in-Some.first c.args.later.event (omega arith) c.from-p.ensures c.in-Some.ensures (sym c.requires.later) c.loop-partner.invariant)
