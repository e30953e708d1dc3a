-- The rules from their parts: what is answered for the parts answers for the rule.
use Rattle.std.proofs.Common.{◌≡◌, ℕ, ◌⊎◌, List, Some, None, Option, MatchOption, sym, refl, ◌∙◌, inl, inr, ⊎_elim}
use Rattle.trace.specs.declared.event.Event.{Event}
use Rattle.trace.specs.Cuts.{Wants, Closed, ThreadWants, SyncWants, HappensBeforeWants, SchedulableWants}
use Rattle.trace.specs.Cuts.SyncWants.{of_threads, last_write, earlier_release}
use Rattle.trace.specs.Cuts.HappensBeforeWants.{of_threads as before_threads, release_before}
use Rattle.trace.specs.Cuts.SchedulableWants.{as_before, last_write as of_read}
use Rattle.predict.specs.Held.{held, Misses}
use Rattle.predict.specs.Parts.{ReadWants, LockWants, ReleaseWants}

module _ (t : List Event) (bs : List ℕ) where
  -- an answer for the first of two parts, where it names an event, and else for the second, is one for the rule
  misses_either : (one two all : Wants) → ((w : ℕ) → one t (held t bs) w → all t (held t bs) w) → ((w : ℕ) → two t (held t bs) w → all t (held t bs) w)
      → (Closed one t (held t bs) → Closed two t (held t bs) → Closed all t (held t bs))
      → (first r : Option ℕ) → Misses one t bs first → MatchOption first (Misses two t bs r) (λ w. r ≡ Some w) → Misses all t bs r
  misses_either one two all here there both (Some w) r h is = rw is (record { outside = h.outside; exact = λ ok. here w (h.exact ok) })
  misses_either one two all here there both None None h rest = record { outside = tt; exact = λ ok. both (h.exact ok) (rest.exact ok) }
  misses_either one two all here there both None (Some w) h rest = record { outside = rest.outside; exact = λ ok. there w (rest.exact ok) }

  -- what is wanted of reads or of locks
  abbrev ReadOrLock : Wants
  ReadOrLock u c w = ReadWants u c w ⊎ LockWants u c w

  -- the sync rule: reads, then locks, then threads
  lock_sync : (w : ℕ) → LockWants t (held t bs) w → SyncWants t (held t bs) w
  lock_sync w h =
      let a = h.first_in in
      let b = h.second_in in
      earlier_release a.inside b.inside h.order a.outer b.outer (a.its_lock ∙ sym b.its_lock) h.release

  either_sync : (w : ℕ) → ReadOrLock t (held t bs) w → SyncWants t (held t bs) w
  either_sync w (inl h) = last_write h.inside h.last_write
  either_sync w (inr h) = lock_sync w h

  sync_closed : Closed ReadOrLock t (held t bs) → Closed ThreadWants t (held t bs) → Closed SyncWants t (held t bs)
  sync_closed rest threads w (of_threads h) = threads w h
  sync_closed rest threads w (last_write {k} i l) = rest w (inl (record { read = k; inside = i; last_write = l }))
  sync_closed rest threads w (earlier_release {a} {b} {e} {f} i j lt p q same rel) = rest w (inr (record {
    lock = f.subject;
    first = a;
    second = b;
    first_in = record { event = e; inside = i; outer = p; its_lock = same };
    second_in = record { event = f; inside = j; outer = q; its_lock = refl };
    order = lt;
    release = rel;
  }))

  pub sync_misses : (first second r : Option ℕ) → Misses ReadWants t bs first → MatchOption first (Misses LockWants t bs second) (λ w. second ≡ Some w)
      → MatchOption second (Misses ThreadWants t bs r) (λ w. r ≡ Some w) → Misses SyncWants t bs r
  sync_misses first second r reads locks threads =
      misses_either ReadOrLock ThreadWants SyncWants either_sync (λ w h. of_threads h) sync_closed second r
      (misses_either ReadWants LockWants ReadOrLock (λ w h. inl h) (λ w h. inr h) (λ x y w. ⊎_elim (x w) (y w)) first second reads locks) threads

  -- the rule of happens-before: earlier releases, then threads
  release_wanted : (w : ℕ) → ReleaseWants t (held t bs) w → HappensBeforeWants t (held t bs) w
  release_wanted w h = let r = h.before in release_before h.inside r.before r.acquires r.frees r.same_lock

  before_closed : Closed ReleaseWants t (held t bs) → Closed ThreadWants t (held t bs) → Closed HappensBeforeWants t (held t bs)
  before_closed locks threads w (before_threads h) = threads w h
  before_closed locks threads w (release_before {a} {e} {f} i lt p q same) = locks w (record {
    acquire = a;
    inside = i;
    before = record { before = lt; acquire = e; release = f; acquires = p; frees = q; same_lock = same };
  })

  pub before_misses : (first r : Option ℕ) → Misses ReleaseWants t bs first → MatchOption first (Misses ThreadWants t bs r) (λ w. r ≡ Some w)
      → Misses HappensBeforeWants t bs r
  before_misses = misses_either ReleaseWants ThreadWants HappensBeforeWants release_wanted (λ w h. before_threads h) before_closed

  -- the rule of schedulable happens-before: earlier releases, then reads, then threads
  abbrev ReleaseOrRead : Wants
  ReleaseOrRead u c w = ReleaseWants u c w ⊎ ReadWants u c w

  either_schedulable : (w : ℕ) → ReleaseOrRead t (held t bs) w → SchedulableWants t (held t bs) w
  either_schedulable w (inl h) = as_before (release_wanted w h)
  either_schedulable w (inr h) = of_read h.inside h.last_write

  schedulable_closed : Closed ReleaseOrRead t (held t bs) → Closed ThreadWants t (held t bs) → Closed SchedulableWants t (held t bs)
  schedulable_closed rest threads w (as_before h) = before_closed (λ v q. rest v (inl q)) threads w h
  schedulable_closed rest threads w (of_read {k} i l) = rest w (inr (record { read = k; inside = i; last_write = l }))

  pub schedulable_misses : (first second r : Option ℕ) → Misses ReleaseWants t bs first → MatchOption first (Misses ReadWants t bs second) (λ w. second ≡ Some w)
      → MatchOption second (Misses ThreadWants t bs r) (λ w. r ≡ Some w) → Misses SchedulableWants t bs r
  schedulable_misses first second r releases reads threads =
      misses_either ReleaseOrRead ThreadWants SchedulableWants either_schedulable (λ w h. as_before (before_threads h)) schedulable_closed second r
      (misses_either ReleaseWants ReadWants ReleaseOrRead (λ w h. inl h) (λ w h. inr h) (λ x y w. ⊎_elim (x w) (y w)) first second releases reads) threads
