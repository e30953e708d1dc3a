-- Each event of the cut comes, or the trace check turns it away and its lock is noted.
use Rattle.std.proofs.Common.{refl, sym, rules, arith}
use Rattle.reel.proofs.Left.{passes_some, passes_end}
use Rattle.predict.proofs.Bounds.{below_length, below_end}
use Rattle.predict.proofs.Inside.{seen_first}
use Rattle.predict.proofs.ClashParts.{checked_start, checked_out, checked_in, checked_never, checked_off, checked_all, clash_ends}
use Rattle.predict.proofs.locks.search_ends.Goals as goal
use Rattle.predict.proofs.locks.search_ends.Goals.{else-is_lock-via-then-is_lock+then-holds+then-is_err+else-eq, else-is_lock-via-then-is_lock+then-holds+else-is_err, else-is_lock-via-then-is_lock+else-holds, else-is_lock-via-else-is_lock}

pub loop-k-init : goal.loop-k-init
loop-k-init g c = record {
  none = refl;
  checked = λ ok. checked_start (g.R.Reel.events c.args.reel.now) c.args.cut.now.bounds c.new-locks.result c.new-locks.ensures;
  next = c.iter-event-items.ensures;
}

pub overflow_step-k : goal.overflow_step-k
overflow_step-k g c =
    let reel = c.args.reel.now in
    let next = passes_some (g.R.Reel.events reel) c.loop-k.k c.in-Some.event _ _ c.loop-k.invariant.next c.in-Some.ensures.steps in
    omega (arith, next.1, g.R.Reel.few reel, g.R.Reel.small reel)

pub overflow_add-ends : goal.overflow_add-ends
overflow_add-ends g c =
    let reel = c.args.reel.now in
    let next = passes_some (g.R.Reel.events reel) c.loop-k.k c.in-Some.event _ _ c.loop-k.invariant.next c.in-Some.ensures.steps in
    omega (arith, next.1, g.R.Reel.few reel, g.R.Reel.small reel)

pub loop-k-preserved : goal.loop-k-preserved
loop-k-preserved g c =
    let t = g.R.Reel.events c.args.reel.now in
    let bs = c.args.cut.now.bounds in
    let k = c.loop-k.k in
    let e = c.in-Some.event in
    let inv = c.loop-k.invariant in
    let seen = seen_first t bs k e _ _ inv.next c.in-Some.ensures.steps refl in
    record {
      none = inv.none;
      checked = elim c.else-is_lock.branch [
        | else-is_lock-via-then-is_lock+then-holds+else-is_err w ↦
            rw w.locks-is (checked_in t bs seen c.loop-k.locks inv.checked (sym w.if-holds.ensures) w.turn.new.self w.turn.result w.turn.ensures (search rules))
        | else-is_lock-via-then-is_lock+then-holds+then-is_err+else-eq w ↦
            rw w.locks-is (checked_never t bs seen c.loop-k.locks inv.checked (sym w.if-holds.ensures) w.turn.new.self w.turn.result w.turn.ensures (search rules)
            (λ acquire. let other = w.if-eq.ensures in absurd (search rules)))
        | else-is_lock-via-then-is_lock+else-holds w ↦ rw w.locks-is (checked_out t bs seen c.loop-k.locks inv.checked (sym w.if-holds.ensures))
        | else-is_lock-via-else-is_lock w ↦ rw w.locks-is (checked_off t bs seen c.loop-k.locks inv.checked (sym w.if-is_lock.ensures))
      ];
      next = (passes_some t k e _ _ inv.next c.in-Some.ensures.steps).2;
    }

pub returns-in-None : goal.returns-in-None
returns-in-None g c =
    let t = g.R.Reel.events c.args.reel.now in
    let bs = c.args.cut.now.bounds in
    let inv = c.loop-k.invariant in
    rw inv.none (checked_all t bs c.loop-k.k (below_length t bs c.loop-k.k (passes_end t c.loop-k.k _ inv.next c.in-None.ensures.steps.0)) (λ ok. (inv.checked ok).admitted))

pub returns-then-k-end : goal.returns-then-k-end
returns-then-k-end g c =
    let t = g.R.Reel.events c.args.reel.now in
    let bs = c.args.cut.now.bounds in
    let inv = c.loop-k.invariant in
    rw inv.none (checked_all t bs c.loop-k.k (below_end t bs c.loop-k.k c.end-end.result c.end-end.ensures (omega arith)) (λ ok. (inv.checked ok).admitted))

pub returns-then-eq : goal.returns-then-eq
returns-then-eq g c =
    let t = g.R.Reel.events c.args.reel.now in
    let bs = c.args.cut.now.bounds in
    let inv = c.loop-k.invariant in
    let seen = seen_first t bs c.loop-k.k c.in-Some.event _ _ inv.next c.in-Some.ensures.steps refl in
    rw (c.from.ensures, inv.none)
    (clash_ends t bs seen c.loop-k.locks inv.checked (sym c.if-holds.ensures) c.turn.new.self c.turn.result c.turn.ensures (search rules) (search rules))
