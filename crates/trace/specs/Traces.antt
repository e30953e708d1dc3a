-- Traces, which of them the trace check admits, and how their events relate. A trace is a list of events; positions in it count from 0.
use Rattle.std.specs.Prelude.{◌≡◌, ℕ, suc, pred, ◌+◌, ◌<◌, true, false, ◌&&◌, ◌||◌, cond, List, [], ◌∷◌, take, fold, Some, None, Option, ◌==◌, ◌≢◌, nat_lt}
use Rattle.std.specs.List.{slice_get}
use Rattle.trace.specs.declared.event.Event.{Event}
use Rattle.trace.specs.declared.hold.Hold.{Hold}
use Rattle.trace.specs.declared.life.Life.{Life}
use Rattle.trace.specs.declared.kind.Kind.{Kind}
use Rattle.trace.specs.declared.kind.Kind.TheVariants.{Read, Write, Acquire, Release, Spawn, Join}
use Rattle.trace.specs.Limits.{deepest}

-- the event at position k of t is e
abbrev pub At : List Event → ℕ → Event → Type 0
At t k e = slice_get t k ≡ Some e

-- the thread that holds each lock, and how deep, if one does: once deep where it acquired the lock, and once more for each acquire that followed
-- while it held it
abbrev pub Holders : Type 0
Holders = ℕ → Option Hold

-- what is known of each thread: whether it has an event, whether a spawn or a join named it, and whether a join did
abbrev pub Lives : Type 0
Lives = ℕ → Life

-- what the trace check keeps: who holds each lock, and what is known of each thread
pub record Standing : Type 0 where
  pub holders : Holders
  pub lives : Lives

-- no thread holds a lock, and of no thread anything is known
abbrev pub at_start : Standing
at_start = record { holders = λ l. None; lives = λ p. record { begun = false; named = false; joined = false } }

-- a table, with another value at one place
abbrev pub give : {A : Type 0} → (ℕ → A) → ℕ → A → ℕ → A
give table at x m = cond (m == at) x (table m)

-- the hold of a lock that a thread has acquired once more
abbrev pub entered : ℕ → Option Hold → Option Hold
entered thread None = Some (record { thread = thread; depth = 1 })
entered thread (Some h) = Some (record { thread = thread; depth = h.depth + 1 })

-- and of one that its holder has released once: the release of a lock that is held once frees it
abbrev pub left : Option Hold → Option Hold
left None = None
left (Some h) = cond (nat_lt 1 h.depth) (Some (record { thread = h.thread; depth = pred h.depth })) None

-- the holders after an event of a kind, by a thread, on a subject
abbrev pub turn : Kind → ℕ → ℕ → Holders → Holders
turn Read thread subject h = h
turn Write thread subject h = h
turn Acquire thread subject h = give h subject (entered thread (h subject))
turn Release thread subject h = give h subject (left (h subject))
turn Spawn thread subject h = h
turn Join thread subject h = h

-- what is known of the threads where one has an event
abbrev pub begin : ℕ → Lives → Lives
begin thread lives = give lives thread (record (lives thread) { begun = true })

-- and where an event of a kind is on a subject
abbrev pub name : Kind → ℕ → Lives → Lives
name Read subject lives = lives
name Write subject lives = lives
name Acquire subject lives = lives
name Release subject lives = lives
name Spawn subject lives = give lives subject (record (lives subject) { named = true })
name Join subject lives = give lives subject (record { begun = (lives subject).begun; named = true; joined = true })

-- what the trace check keeps after one event more
abbrev pub after_event : Standing → Event → Standing
after_event s e = record { holders = turn e.kind e.thread e.subject s.holders; lives = name e.kind e.subject (begin e.thread s.lives) }

-- and after a list of events
abbrev pub after : Standing → List Event → Standing
after s [] = s
after s (e ∷ es) = after (after_event s e) es

-- and at the end of a trace
abbrev pub standing_after : List Event → Standing
standing_after t = after at_start t

-- why the trace check turns away an event of a kind, by a thread, on a lock that is held so: 5 for an acquire if another thread holds it, 13 for
-- one that would make the hold deeper than can be, 6 for a release if the holder is another thread or none
abbrev pub lock_refusal : Kind → ℕ → Option Hold → Option ℕ
lock_refusal Read thread hold = None
lock_refusal Write thread hold = None
lock_refusal Acquire thread None = None
lock_refusal Acquire thread (Some h) = cond (h.thread == thread) (cond (nat_lt h.depth deepest) None (Some 13)) (Some 5)
lock_refusal Release thread None = Some 6
lock_refusal Release thread (Some h) = cond (h.thread == thread) None (Some 6)
lock_refusal Spawn thread hold = None
lock_refusal Join thread hold = None

-- why it turns away any event of a thread of which so much is known: 15 where the thread was joined
abbrev pub ended_refusal : Life → Option ℕ
ended_refusal life = cond life.joined (Some 15) None

-- and an event of a kind, by a thread, on a thread of which so much is known: 14 for a spawn or a join of its own thread, and for a spawn of a thread
-- that has an event, or that an earlier spawn or join named
abbrev pub thread_refusal : Kind → ℕ → ℕ → Life → Option ℕ
thread_refusal Read thread subject life = None
thread_refusal Write thread subject life = None
thread_refusal Acquire thread subject life = None
thread_refusal Release thread subject life = None
thread_refusal Spawn thread subject life = cond (thread == subject || (life.begun || life.named)) (Some 14) None
thread_refusal Join thread subject life = cond (thread == subject) (Some 14) None

-- the first of two refusals
abbrev pub or_else : Option ℕ → Option ℕ → Option ℕ
or_else None next = next
or_else (Some n) next = Some n

-- why the trace check turns the event e away, if it does
abbrev pub trace_refusal : Standing → Event → Option ℕ
trace_refusal s e =
    or_else (ended_refusal (s.lives e.thread))
    (or_else (thread_refusal e.kind e.thread e.subject (s.lives e.subject)) (lock_refusal e.kind e.thread (s.holders e.subject)))

-- the trace check lets the event e come next
abbrev pub Allowed : Standing → Event → Type 0
Allowed s e = trace_refusal s e ≡ None

-- the trace check lets each event of a list come, from s on
abbrev pub AdmitsFrom : Standing → List Event → Type 0
AdmitsFrom s [] = Unit {0}
AdmitsFrom s (e ∷ es) = Allowed s e × AdmitsFrom (after_event s e) es

-- the trace check admits t
abbrev pub Admits : List Event → Type 0
Admits t = AdmitsFrom at_start t

-- how deep a thread is in a lock after an event of its own on that lock
abbrev pub deeper : Kind → ℕ → ℕ
deeper Read n = n
deeper Write n = n
deeper Acquire n = suc n
deeper Release n = pred n
deeper Spawn n = n
deeper Join n = n

-- how deep a thread is in a lock after one event more
abbrev pub depth_with : ℕ → ℕ → ℕ → Event → ℕ
depth_with thread lock n e = cond (e.thread == thread && e.subject == lock) (deeper e.kind n) n

-- how deep a thread is in a lock after some events: how often it acquired the lock and did not release it again
abbrev pub depth : ℕ → ℕ → List Event → ℕ
depth thread lock es = fold (depth_with thread lock) 0 es

-- how deep the thread of the event e is in the lock of e before position k
abbrev pub depth_at : List Event → ℕ → Event → ℕ
depth_at t k e = depth e.thread e.subject (take k t)

-- k is an outer acquire: its thread is not in the lock before it. The other acquires are inner
pub record Outer (t : List Event) (k : ℕ) (e : Event) : Type 0 where
  pub is : At t k e
  pub is_acquire : e.kind ≡ Acquire
  pub outside : depth_at t k e ≡ 0

-- k is a release that frees its lock: its thread is in the lock once before it. The other releases are inner
pub record Frees (t : List Event) (k : ℕ) (e : Event) : Type 0 where
  pub is : At t k e
  pub is_release : e.kind ≡ Release
  pub last : depth_at t k e ≡ 1

-- d is an earlier event of the thread of k
pub record EarlierInThread (t : List Event) (d k : ℕ) : Type 0 where
  pub before : d < k
  pub first : Event
  pub second : Event
  pub first_is : At t d first
  pub second_is : At t k second
  pub same_thread : first.thread ≡ second.thread

-- s is an earlier event that spawns the thread of k
pub record SpawnOf (t : List Event) (s k : ℕ) : Type 0 where
  pub before : s < k
  pub spawn : Event
  pub event : Event
  pub spawn_is : At t s spawn
  pub event_is : At t k event
  pub is_spawn : spawn.kind ≡ Spawn
  pub names : spawn.subject ≡ event.thread

-- k is a join, and s an earlier event that spawns the thread that it awaits
pub record AwaitedSpawn (t : List Event) (s k : ℕ) : Type 0 where
  pub before : s < k
  pub spawn : Event
  pub join : Event
  pub spawn_is : At t s spawn
  pub join_is : At t k join
  pub is_spawn : spawn.kind ≡ Spawn
  pub is_join : join.kind ≡ Join
  pub names : spawn.subject ≡ join.subject

-- k is a join, and d an earlier event of the thread that it awaits
pub record AwaitedEvent (t : List Event) (d k : ℕ) : Type 0 where
  pub before : d < k
  pub event : Event
  pub join : Event
  pub event_is : At t d event
  pub join_is : At t k join
  pub is_join : join.kind ≡ Join
  pub names : event.thread ≡ join.subject

-- and the last one
pub record LastAwaited (t : List Event) (d k : ℕ) : Type 0 where
  pub awaited : AwaitedEvent t d k
  pub none_later : (m : ℕ) → d < m → AwaitedEvent t m k → ⊥

-- d is the previous event of k: the latest earlier one of its thread, and where there is none the latest earlier spawn of its thread
pub data Previous (t : List Event) (k d : ℕ) : Type 0 where
  in_thread : EarlierInThread t d k → ((m : ℕ) → d < m → EarlierInThread t m k → ⊥) → Previous t k d
  by_spawn : SpawnOf t d k → ((m : ℕ) → EarlierInThread t m k → ⊥) → ((m : ℕ) → d < m → SpawnOf t m k → ⊥) → Previous t k d

-- k is a read, and w its last write: an earlier write to the same variable, with none between
pub record LastWrite (t : List Event) (k w : ℕ) : Type 0 where
  pub before : w < k
  pub read : Event
  pub write : Event
  pub read_is : At t k read
  pub write_is : At t w write
  pub is_read : read.kind ≡ Read
  pub is_write : write.kind ≡ Write
  pub same_variable : write.subject ≡ read.subject
  pub none_between : (m : ℕ) (e : Event) → w < m → m < k → At t m e → e.kind ≡ Write → e.subject ≢ read.subject

-- a is an acquire, and r its release: the thread of a frees the lock there, and nowhere between
pub record ReleaseOf (t : List Event) (a r : ℕ) : Type 0 where
  pub after : a < r
  pub acquire : Event
  pub release : Event
  pub acquire_is : At t a acquire
  pub is_acquire : acquire.kind ≡ Acquire
  pub frees : Frees t r release
  pub same_lock : release.subject ≡ acquire.subject
  pub same_thread : release.thread ≡ acquire.thread
  pub none_between : (m : ℕ) (e : Event) → a < m → m < r → Frees t m e → e.subject ≡ acquire.subject → e.thread ≡ acquire.thread → ⊥
