use Rattle.std.proofs.Common.{sym, refl, ap, ◌∙◌, None, Some}
use Rattle.std.proofs.lemmas.Bool.{eq-eqb}
use Rattle.std.proofs.lemmas.Result.{err_from_is_err_and}
use Rattle.trace.specs.declared.kind.Kind.TheVariants.{Acquire}
use Rattle.trace.specs.Traces.{entered, lock_refusal}
use Rattle.trace.proofs.LockTables.{turned_off, turned_acquire, turned_release, refused}
use Rattle.trace.proofs.locks.LockTable.turn.Goals as goal

pub returns-then-not-is_lock : goal.returns-then-not-is_lock
returns-then-not-is_lock c = turned_off c.args.self.now c.args.event.now (cc)

pub returns-in-None-Acquire : goal.returns-in-None-Acquire
returns-in-None-Acquire c =
    turned_acquire c.args.self.now c.args.event.now _ None (rw c.from-lock.ensures at c.in-None-Acquire.is-0) _ c.in-None-Acquire.is-1 refl
    c.first.ensures (rw c.from-lock.ensures refl)

pub returns-in_ok-entered-in-Some-Acquire : goal.returns-in_ok-entered-in-Some-Acquire
returns-in_ok-entered-in-Some-Acquire c =
    let h = c.in-Some-Acquire.hold in
    let own = c.if-hold-event.true in
    let done = c.in_ok-entered-in-Some-Acquire in
    turned_acquire c.args.self.now c.args.event.now _ (Some h) (rw c.from-lock.ensures at c.in-Some-Acquire.is-0) done.field-0
    c.in-Some-Acquire.is-1 (ap (λ p. lock_refusal Acquire p (Some h)) (sym own) ∙ sym done.ensures.refused)
    (done.ensures.then done.field-0 refl ∙ ap (λ p. entered p (Some h)) own) (rw c.from-lock.ensures refl)

pub returns-in_err-entered-in-Some-Acquire : goal.returns-in_err-entered-in-Some-Acquire
returns-in_err-entered-in-Some-Acquire c =
    let h = c.in-Some-Acquire.hold in
    let own = c.if-hold-event.true in
    let done = c.in_err-entered-in-Some-Acquire in
    let e = err_from_is_err_and c.from_residual.result c.from_residual.ensures.1 in
    let was = rw c.from-lock.ensures at c.in-Some-Acquire.is-0 in
    let says = ap (λ p. lock_refusal Acquire p (Some h)) (sym own) ∙ sym done.ensures.refused in
    rw (e.1, e.2) (refused c.args.self.now c.args.event.now done.field-0.0 (rw (c.in-Some-Acquire.is-1, was) says))

pub returns-in-Some-Release : goal.returns-in-Some-Release
returns-in-Some-Release c =
    let own = c.if-hold-event-2.true in
    turned_release c.args.self.now c.args.event.now _ (Some c.in-Some-Release.hold) (rw c.from-lock.ensures at c.in-Some-Release.is-0)
    c.in-Some-Release.is-1 (rw (eq-eqb c.in-Some-Release.hold.thread c.args.event.now.thread own) refl) (rw (c.from-lock.ensures, c.left.ensures) refl)
