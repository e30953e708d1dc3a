-- What becomes of the records of the examples.
use Rattle.std.proofs.Common.{◌≡◌, ℕ, ◌-◌, ◌<◌, false, cond, List, [], ◌∷◌, ◌++◌, length, Some, None, refl, ◌∙◌, length-append, nat_lt, arith}
use native.Mathlib.Decide.{dec_lt}
use Rattle.trace.proofs.Records.{record_means}
use Rattle.trace.specs.declared.event.Event.{Event}
use Rattle.trace.specs.Limits.{locks, threads, deepest}
use Rattle.trace.specs.Traces.{Admits, depth, standing_after, trace_refusal}
use Rattle.trace.proofs.Depths.{held_as_deep, acquire_inside}
use Rattle.trace.specs.declared.kind.Kind.TheVariants.{Read, Write, Acquire, Release, Spawn, Join}
use Rattle.std.proofs.lemmas.Bool.{lt-ltb}
use Rattle.answer.specs.declared.fault.PairFault.TheVariants.{NoEvent, Order}
use Rattle.session.specs.Races.Judged.{refused}
use Rattle.cases.specs.Examples.{event}
use Rattle.cases.specs.Cases.{LocksByHolder, LocksDeep, ThreadsByLife, PairsRefused, LastSubjects, SubjectsRefused, DumpLengths, LastRoom}

pub locks_by_holder : LocksByHolder
locks_by_holder room = (
  λ enough. let h = lt-ltb 0 room enough in rw (record_means (event Acquire 0 0 tt tt), h) refl,
  rw (record_means (event Release 1 0 tt tt)) refl,
  rw (record_means (event Acquire 1 0 tt tt)) refl,
  λ enough. let h = lt-ltb 1 room enough in rw (record_means (event Acquire 0 0 tt tt), h) refl,
)

-- what the trace check says of a further acquire by a thread that is in the lock
further : (t : List Event) → Admits t → let life = (standing_after t).lives 0 in life.joined ≡ false → (n : ℕ) → depth 0 0 t ≡ n → 0 < n
    → trace_refusal (standing_after t) (event Acquire 0 0 tt tt) ≡ cond (nat_lt n deepest) None (Some 13)
further t ok alive n deep some =
    let held = held_as_deep t ok 0 0 ∙ deep in
    rw (alive, ← held) (acquire_inside 0 ((standing_after t).holders 0) (omega arith))

pub locks_deep : LocksDeep
locks_deep room t ok alive = (
  λ enough deep. let h = lt-ltb (length t) room enough in let allowed = further t ok alive 254 deep (omega arith) in rw (record_means (event Acquire 0 0 tt tt), allowed, h) refl,
  λ deep. let turned = further t ok alive 255 deep (omega arith) in rw (record_means (event Acquire 0 0 tt tt), turned) refl,
)

pub threads_by_life : ThreadsByLife
threads_by_life room = (
  λ enough. let h = lt-ltb 0 room enough in rw (record_means (event Spawn 0 1 tt tt), h) refl,
  rw (record_means (event Spawn 0 1 tt tt)) refl,
  rw (record_means (event Join 1 1 tt tt)) refl,
  λ enough. let h = lt-ltb 1 room enough in rw (record_means (event Join 0 1 tt tt), h) refl,
  rw (record_means (event Write 1 0 tt tt)) refl,
  rw (record_means (event Spawn 1 1 tt tt)) refl,
)

pub pairs_refused : PairsRefused
pairs_refused = ((NoEvent, refused refl, refl), (Order, refused refl, refl))

pub last_subjects : LastSubjects
last_subjects room enough =
    let h = lt-ltb 0 room enough in (
      rw (record_means (event Read 0 1023 tt tt), h) refl,
      rw (record_means (event Write 0 1023 tt tt), h) refl,
      rw (record_means (event Acquire 0 (locks - 1) tt tt), h) refl,
      rw (record_means (event Spawn 0 (threads - 1) tt tt), h) refl,
    )

pub subjects_refused : SubjectsRefused
unfolding dec_lt
subjects_refused room t = (refl, refl, refl, refl, refl, refl)

pub dump_lengths : DumpLengths
dump_lengths room t = (refl, λ dump h. rw h refl)

pub last_room : LastRoom
last_room = (
  λ t e f many allowed next.
      let full : length (t ++ (e ∷ [])) ≡ 1024 = length-append t (e ∷ []) ∙ rw many refl in
      (rw (record_means e, allowed, many) refl, rw (record_means f, next, full) refl),
  λ t e allowed. (λ h. rw (record_means e, allowed, h) refl, λ h. rw (record_means e, allowed, h) refl),
)
