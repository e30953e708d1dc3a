use Rattle.std.proofs.Common.{◌++◌, take, ap, ◌∙◌, arith, rules}
use Rattle.std.proofs.Output.{has_written_append, has_written_of_eq}
use Rattle.std.proofs.lemmas.List.{take_all}
use Rattle.reel.proofs.Left.{passes_some, passes_end}
use Rattle.report.specs.Texts.{event_line, event_lines}
use Rattle.report.proofs.Lines.{lines_more, depth_told, lets_next, tells_next}
use Rattle.report.proofs.listing.EventLinesDisplay.fmt.Goals as goal

pub overflow_step-position : goal.overflow_step-position
overflow_step-position g c =
    let next = passes_some c.args.self.now.0.now.trace c.loop-position.position c.in-Some.event _ _ c.loop-position.invariant.1 c.in-Some.ensures.steps in
    omega (arith, next.1, c.iter-event-items.ensures.few)

pub unreachable-requires : goal.unreachable-requires
unreachable-requires g c =
    let t = c.args.self.now.0.now.trace in
    let k = c.loop-position.position in
    let i = c.loop-position.invariant in
    let next = passes_some t k c.in-Some.event _ _ i.1 c.in-Some.ensures.steps in
    lets_next t c.iter-event-items.ensures.admitted c.loop-position.check k i.2 c.in-Some.event next.0 _ _ c.in_default.ensures

pub loop-position-preserved : goal.loop-position-preserved
loop-position-preserved g c =
    let t = c.args.self.now.0.now.trace in
    let k = c.loop-position.position in
    let e = c.in-Some.event in
    let i = c.loop-position.invariant in
    let next = passes_some t k e _ _ i.1 c.in-Some.ensures.steps in
    let admitted = c.iter-event-items.ensures.admitted in
    let deep = c.depth-depth.ensures ∙ depth_told t admitted c.loop-position.check k i.2 e next.0 in (
      λ p. has_written_of_eq _ _ _ _ _ (ap (λ n. event_lines t 0 (take k t) ++ event_line k e n) deep ∙ lines_more t k e next.1 next.0)
          (has_written_append _ _ _ _ _ _ (i.0 p) (search rules)),
      next.2,
      tells_next t admitted c.loop-position.check k i.2 e next.0 _ next.1 c.in-Ok.ensures,
    )

pub returns-clause-writes : goal.returns-clause-writes
returns-clause-writes g c = λ p done.
    let t = c.args.self.now.0.now.trace in
    let k = c.loop-position.position in
    let i = c.loop-position.invariant in
    has_written_of_eq _ _ _ _ _ (ap (event_lines t 0) (take_all k t (passes_end t k _ i.1 c.in-None.ensures.steps.0))) (i.0 p)
