use Rattle.std.proofs.Common.{◌≡◌, ℕ, ◌≤◌, [], ◌++◌, length, sym, subst, refl, arith, rules, length-append}
use Rattle.std.proofs.lemmas.List.{length-map}
use Rattle.reel.proofs.Left.{passes_some, passes_end}
use Rattle.session.specs.Races.{pair}
use Rattle.session.proofs.Sweeping.{SweepBelow, pairs_with, sweep_none, sweep_more, sweep_all}
use Rattle.report.specs.Reports.RaceLines.{none}
use Rattle.report.proofs.Gathered.{partners_fit}
use Rattle.report.proofs.Pairs.{lines_append}
use Rattle.report.proofs.races.race_lines.Goals as goal

pub loop-position-init : goal.loop-position-init
loop-position-init g c = record {
  places = search rules;
  pairs = [];
  below = sweep_none c.args.session.now.trace;
  lines = rw c.new-text.ensures.bytes none;
  many = refl;
  few = omega arith;
  within = omega arith;
  left = c.iter-event-items.ensures.events;
}

pub partner_lines-requires-clause-later : goal.partner_lines-requires-clause-later
partner_lines-requires-clause-later g c =
    sym (passes_some c.args.session.now.trace c.loop-position.position c.in-Some.event _ _ c.loop-position.invariant.left c.in-Some.ensures.steps).0

pub overflow_add-count : goal.overflow_add-count
overflow_add-count g c =
    let next = passes_some c.args.session.now.trace c.loop-position.position c.in-Some.event _ _ c.loop-position.invariant.left c.in-Some.ensures.steps in
    let p = c.in_ok-lines.ensures in
    let i = c.loop-position.invariant in
    omega (arith, next.1, partners_fit p.all, p.many, i.few, c.iter-event-items.ensures.few)

pub loop-position-preserved : goal.loop-position-preserved
loop-position-preserved g c =
    let t = c.args.session.now.trace in
    let i = c.loop-position.invariant in
    let next = passes_some t c.loop-position.position c.in-Some.event _ _ i.left c.in-Some.ensures.steps in
    let p = c.in_ok-lines.ensures in
    let added = pairs_with c.loop-position.position p.partners in
    record {
      places = i.places;
      pairs = i.pairs ++ added;
      below = sweep_more t i.below p.all;
      lines = rw (c.in_ok-push_str.ensures.bytes, c.as_str.ensures.value) (lines_append t i.lines p.lines);
      many = omega (arith, length-append i.pairs added, length-map p.partners (λ (x : ℕ). pair x c.loop-position.position), i.many, p.many);
      few = omega (arith, partners_fit p.all, p.many, i.few, c.iter-event-items.ensures.few);
      within = omega (arith, next.1);
      left = next.2;
    }

pub returns : goal.returns
returns g c =
    let t = c.args.session.now.trace in
    let i = c.loop-position.invariant in
    let past : length t ≤ c.loop-position.position = passes_end t c.loop-position.position _ i.left c.in-None.ensures.steps.0 in
    let all : c.loop-position.position ≡ length t = omega (arith, i.within) in
    record { pairs = i.pairs; all = sweep_all t (subst (λ (n : ℕ). SweepBelow t n i.pairs) all i.below); many = i.many; lines = i.lines }
