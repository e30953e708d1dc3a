-- Each position is no outer acquire of the lock, or stands before the position, or it shows that the answer is no.
use mathlib.Core.List.Memᴰ
use Rattle.std.proofs.Common.{◌≡◌, get_or, None, rules, sym, refl, ◌∙◌, arith}
use Rattle.std.specs.List.{slice_get}
use Rattle.std.proofs.lemmas.List.{take_all}
use Rattle.reorder.proofs.Acquires.{not_before, before_more, no_acquire, tells_more, tells_still}
use Rattle.reorder.proofs.vet.Reordering.acquired_before.Goals as goal
use Rattle.reorder.proofs.vet.Reordering.acquired_before.Goals.{in-Some+else-eq, else-eq-via-then-eq+then-event-lock+then-acquire-position+else-depth-eq0, else-eq-via-then-eq+then-event-lock+else-acquire-position, else-eq-via-then-eq+else-event-lock, else-eq-via-else-eq, in_default}

pub returns-then-all_acquired_before : goal.returns-then-all_acquired_before
returns-then-all_acquired_before g c =
    (λ q a m e outer lock. c.all_acquired_before.ensures.0 c.if-all_acquired_before.true a m e outer.is outer.is_acquire lock, λ all. refl)

pub loop-k-init : goal.loop-k-init
loop-k-init g c = record { tells = c.new-check.ensures; before = λ m i. absurd (Memᴰ.not-nil i) }

pub returns-then-depth-eq0 : goal.returns-then-depth-eq0
returns-then-depth-eq0 g c =
    let s = c.args.self.now in
    not_before (g.R.Reel.events s.reel.now) s.list.now s.reorders c.loop-k.check c.args.position c.args.lock c.loop-k.k-index c.loop-k-test.true
    c.loop-k.invariant.tells c.in-Some.event (rw c.from-acquire.ensures at (sym c.in-Some.ensures)) (search rules) c.if-event-lock.true
    (rw c.from-acquire.ensures at c.if-acquire-position.true) (sym c.depth.ensures ∙ c.if-depth-eq0.true)

pub loop-k-preserved : goal.loop-k-preserved
loop-k-preserved g c =
    let s = c.args.self.now in
    let t = g.R.Reel.events s.reel.now in
    let xs = s.list.now in
    let table = c.loop-k.check in
    let k = c.args.position in
    let l = c.args.lock in
    let i = c.loop-k.k-index in
    let b = c.loop-k-test.true in
    let inv = c.loop-k.invariant in
    elim c.match-event.branch [
      | in-Some+else-eq w ↦
          let e = w.in-Some.event in
          let is = rw c.from-acquire.ensures at (sym w.in-Some.ensures) in
          record {
            tells = rw w.check-is (tells_more t xs s.reorders table k l i b inv.tells e is w.turn.new.self w.turn.result w.turn.ensures);
            before = before_more t xs s.reorders table k l i b inv.tells inv.before (no_acquire t xs s.reorders table k l i b inv.tells e is
                (λ kind lock late out. elim w.else-eq.branch [
                  | else-eq-via-then-eq+then-event-lock+then-acquire-position+else-depth-eq0 v ↦ v.if-depth-eq0.false (v.depth.ensures ∙ out)
                  | else-eq-via-then-eq+then-event-lock+else-acquire-position v ↦ omega (arith, late, v.if-acquire-position.false, c.from-acquire.ensures)
                  | else-eq-via-then-eq+else-event-lock v ↦ v.if-event-lock.false lock
                  | else-eq-via-else-eq v ↦ let other = v.if-eq.ensures in absurd (search rules)
                ]));
          }
      | in_default w ↦
          let none : slice_get t (get_or xs i 0) ≡ None = search rules in
          record {
            tells = rw w.check-is (tells_still t xs s.reorders table k l i b inv.tells none);
            before = before_more t xs s.reorders table k l i b inv.tells inv.before (λ f outer. let is = outer.is in absurd (grind arith));
          }
    ]

pub returns : goal.returns
returns g c =
    let xs = c.args.self.now.list.now in
    (λ q. rw (take_all c.loop-k.k-index xs c.loop-k-test.false) at c.loop-k.invariant.before, λ all. refl)
