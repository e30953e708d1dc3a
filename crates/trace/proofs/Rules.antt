-- The sync rule and the rules of happens-before and of schedulable happens-before keep the laws of a rule.
use Rattle.std.proofs.Common.{ℕ, ◌<◌, List, ◌++◌, length, arith}
use Rattle.trace.specs.declared.event.Event.{Event}
use Rattle.trace.specs.Traces.{Admits}
use Rattle.trace.specs.Cuts.{Positions, In, Inside, Laws, ThreadWants, SyncWants, HappensBeforeWants, SchedulableWants}
use Rattle.trace.specs.Cuts.SyncWants.{of_threads, last_write, earlier_release}
use Rattle.trace.specs.Cuts.ThreadWants.{spawn, awaited_spawn, awaited_last}
use Rattle.trace.specs.Cuts.HappensBeforeWants.{of_threads as before_threads, release_before}
use Rattle.trace.specs.Cuts.SchedulableWants.{as_before, last_write as of_read}
use Rattle.trace.proofs.Events.{spawn_longer, spawn_shorter, awaited_spawn_longer, awaited_spawn_shorter, last_awaited_longer, last_awaited_shorter, outer_longer, outer_shorter, frees_longer, frees_shorter, last_write_longer, last_write_shorter, release_longer, release_shorter}
use Rattle.trace.proofs.Releases.{release_before_next}

-- what is wanted of threads stands before an event of the cut, a greater cut wants no less of it, and a cut wants the same in a longer trace
threads_earlier : (t : List Event) (c : Positions) (w : ℕ) → ThreadWants t c w → (k : ℕ) × In k c × (w < k)
threads_earlier t c w (spawn {k} i h) = (k, i, h.before)
threads_earlier t c w (awaited_spawn {k} i h) = (k, i, h.before)
threads_earlier t c w (awaited_last {k} i h) = (k, i, h.awaited.before)

threads_more : (t : List Event) (c d : Positions) (w : ℕ) → Inside c d → ThreadWants t c w → ThreadWants t d w
threads_more t c d w sub (spawn {k} i h) = spawn (sub k i) h
threads_more t c d w sub (awaited_spawn {k} i h) = awaited_spawn (sub k i) h
threads_more t c d w sub (awaited_last {k} i h) = awaited_last (sub k i) h

threads_shorter : (t u : List Event) (c : Positions) → ((k : ℕ) → In k c → k < length t) → (w : ℕ) → ThreadWants (t ++ u) c w → ThreadWants t c w
threads_shorter t u c inside w (spawn {k} i h) = spawn i (spawn_shorter t u w k (inside k i) h)
threads_shorter t u c inside w (awaited_spawn {k} i h) = awaited_spawn i (awaited_spawn_shorter t u w k (inside k i) h)
threads_shorter t u c inside w (awaited_last {k} i h) = awaited_last i (last_awaited_shorter t u w k (inside k i) h)

threads_longer : (t u : List Event) (c : Positions) (w : ℕ) → ThreadWants t c w → ThreadWants (t ++ u) c w
threads_longer t u c w (spawn {k} i h) = spawn i (spawn_longer t u w k h)
threads_longer t u c w (awaited_spawn {k} i h) = awaited_spawn i (awaited_spawn_longer t u w k h)
threads_longer t u c w (awaited_last {k} i h) = awaited_last i (last_awaited_longer t u w k h)

-- a wanted event stands before an event of the cut
sync_earlier : (t : List Event) (c : Positions) (w : ℕ) → Admits t → SyncWants t c w → (k : ℕ) × In k c × (w < k)
sync_earlier t c w ok (of_threads h) = threads_earlier t c w h
sync_earlier t c w ok (last_write {k} i lw) = (k, i, lw.before)
sync_earlier t c w ok (earlier_release {a} {b} {e} {f} i j lt p q same rel) = (b, j, release_before_next t a b e f ok lt p q same w rel)

before_earlier : (t : List Event) (c : Positions) (w : ℕ) → HappensBeforeWants t c w → (k : ℕ) × In k c × (w < k)
before_earlier t c w (before_threads h) = threads_earlier t c w h
before_earlier t c w (release_before {a} i lt p q same) = (a, i, lt)

schedulable_earlier : (t : List Event) (c : Positions) (w : ℕ) → SchedulableWants t c w → (k : ℕ) × In k c × (w < k)
schedulable_earlier t c w (as_before h) = before_earlier t c w h
schedulable_earlier t c w (of_read {k} i lw) = (k, i, lw.before)

-- a greater cut wants no less
sync_more : (t : List Event) (c d : Positions) (w : ℕ) → Inside c d → SyncWants t c w → SyncWants t d w
sync_more t c d w sub (of_threads h) = of_threads (threads_more t c d w sub h)
sync_more t c d w sub (last_write {k} i lw) = last_write (sub k i) lw
sync_more t c d w sub (earlier_release {a} {b} i j lt p q same rel) = earlier_release (sub a i) (sub b j) lt p q same rel

before_more : (t : List Event) (c d : Positions) (w : ℕ) → Inside c d → HappensBeforeWants t c w → HappensBeforeWants t d w
before_more t c d w sub (before_threads h) = before_threads (threads_more t c d w sub h)
before_more t c d w sub (release_before {a} i lt p q same) = release_before (sub a i) lt p q same

schedulable_more : (t : List Event) (c d : Positions) (w : ℕ) → Inside c d → SchedulableWants t c w → SchedulableWants t d w
schedulable_more t c d w sub (as_before h) = as_before (before_more t c d w sub h)
schedulable_more t c d w sub (of_read {k} i lw) = of_read (sub k i) lw

module _ (t u : List Event) (c : Positions) (inside : (k : ℕ) → In k c → k < length t) where
  -- a cut wants in a trace just what it wants in a longer one
  sync_shorter : (w : ℕ) → Admits (t ++ u) → SyncWants (t ++ u) c w → SyncWants t c w
  sync_shorter w ok (of_threads h) = of_threads (threads_shorter t u c inside w h)
  sync_shorter w ok (last_write {k} i lw) = last_write i (last_write_shorter t u k w (inside k i) lw)
  sync_shorter w ok (earlier_release {a} {b} {e} {f} i j lt p q same rel) =
      let r = release_before_next (t ++ u) a b e f ok lt p q same w rel in
      let n = inside b j in
      earlier_release i j lt (outer_shorter t u a e (inside a i) p) (outer_shorter t u b f (inside b j) q) same
      (release_shorter t u a w (omega arith) rel)

  sync_longer : (w : ℕ) → SyncWants t c w → SyncWants (t ++ u) c w
  sync_longer w (of_threads h) = of_threads (threads_longer t u c w h)
  sync_longer w (last_write {k} i lw) = last_write i (last_write_longer t u k w lw)
  sync_longer w (earlier_release {a} {b} {e} {f} i j lt p q same rel) =
      earlier_release i j lt (outer_longer t u a e p) (outer_longer t u b f q) same (release_longer t u a w rel)

  before_shorter : (w : ℕ) → HappensBeforeWants (t ++ u) c w → HappensBeforeWants t c w
  before_shorter w (before_threads h) = before_threads (threads_shorter t u c inside w h)
  before_shorter w (release_before {a} {e} {f} i lt p q same) =
      let n = inside a i in
      release_before i lt (outer_shorter t u a e n p) (frees_shorter t u w f (omega arith) q) same

  before_longer : (w : ℕ) → HappensBeforeWants t c w → HappensBeforeWants (t ++ u) c w
  before_longer w (before_threads h) = before_threads (threads_longer t u c w h)
  before_longer w (release_before {a} {e} {f} i lt p q same) = release_before i lt (outer_longer t u a e p) (frees_longer t u w f q) same

  schedulable_shorter : (w : ℕ) → SchedulableWants (t ++ u) c w → SchedulableWants t c w
  schedulable_shorter w (as_before h) = as_before (before_shorter w h)
  schedulable_shorter w (of_read {k} i lw) = of_read i (last_write_shorter t u k w (inside k i) lw)

  schedulable_longer : (w : ℕ) → SchedulableWants t c w → SchedulableWants (t ++ u) c w
  schedulable_longer w (as_before h) = as_before (before_longer w h)
  schedulable_longer w (of_read {k} i lw) = of_read i (last_write_longer t u k w lw)

-- so the sync rule keeps the laws, and so do the other two
pub sync_laws : Laws SyncWants
sync_laws = record {
  earlier = λ t c w ok cut h. sync_earlier t c w ok h;
  more = λ t c d w ok cut cut' sub h. sync_more t c d w sub h;
  lasting = λ t u c w ok cut. (sync_shorter t u c cut.in_trace w ok, sync_longer t u c cut.in_trace w);
}

-- the rule of happens-before
pub happens_before_laws : Laws HappensBeforeWants
happens_before_laws = record {
  earlier = λ t c w ok cut h. before_earlier t c w h;
  more = λ t c d w ok cut cut' sub h. before_more t c d w sub h;
  lasting = λ t u c w ok cut. (before_shorter t u c cut.in_trace w, before_longer t u c cut.in_trace w);
}

-- the rule of schedulable happens-before
pub schedulable_laws : Laws SchedulableWants
schedulable_laws = record {
  earlier = λ t c w ok cut h. schedulable_earlier t c w h;
  more = λ t c d w ok cut cut' sub h. schedulable_more t c d w sub h;
  lasting = λ t u c w ok cut. (schedulable_shorter t u c cut.in_trace w, schedulable_longer t u c cut.in_trace w);
}
