-- Eight small traces. In the comments an event is its thread, a letter and its subject: w writes a variable, r reads one, a acquires a lock, z
-- releases one, s spawns a thread and j joins one. All events are at site 0.
use Rattle.std.specs.Prelude.{ℕ, T, List, [], ◌∷◌, nat_lt}
use Rattle.std.proofs.Common.{lit<}
use Rattle.trace.specs.declared.event.Event.{Event}
use Rattle.trace.specs.declared.kind.Kind.{Kind}
use Rattle.trace.specs.declared.kind.Kind.TheVariants.{Read, Write, Acquire, Release, Spawn, Join}
use Rattle.trace.specs.Limits.{threads, subjects}

-- an event of a kind, by a thread, on a subject, each within its limit
abbrev pub event : (kind : Kind) (thread subject : ℕ) → T (nat_lt thread threads) → T (nat_lt subject (subjects kind)) → Event
event kind thread subject p q =
    record { kind = kind; thread = thread; subject = subject; site = 0; known_thread = lit< p; known_subject = lit< q }

-- 0w0 0a0 0z0 1a0 1z0 1w0: two writes, and between them each thread takes and gives back one lock
abbrev pub sections_between : List Event
sections_between =
    event Write 0 0 tt tt ∷ event Acquire 0 0 tt tt ∷ event Release 0 0 tt tt
    ∷ event Acquire 1 0 tt tt ∷ event Release 1 0 tt tt ∷ event Write 1 0 tt tt ∷ []

-- 0a0 0w0 0z0 1a0 1w0 1z0: two writes under one lock
abbrev pub writes_locked : List Event
writes_locked =
    event Acquire 0 0 tt tt ∷ event Write 0 0 tt tt ∷ event Release 0 0 tt tt
    ∷ event Acquire 1 0 tt tt ∷ event Write 1 0 tt tt ∷ event Release 1 0 tt tt ∷ []

-- 0w0 0w1 1r1 1w0: a thread reads what the other wrote last, then writes what it wrote first
abbrev pub read_between : List Event
read_between = event Write 0 0 tt tt ∷ event Write 0 1 tt tt ∷ event Read 1 1 tt tt ∷ event Write 1 0 tt tt ∷ []

-- 0w0 0w1 1a0 1w2 1r1 1z0 2r2 2a0 2w0: the read of variable 2 brings in an acquire, with it the release, and with that the read of variable 1
abbrev pub through_section : List Event
through_section =
    event Write 0 0 tt tt ∷ event Write 0 1 tt tt
    ∷ event Acquire 1 0 tt tt ∷ event Write 1 2 tt tt ∷ event Read 1 1 tt tt ∷ event Release 1 0 tt tt
    ∷ event Read 2 2 tt tt ∷ event Acquire 2 0 tt tt ∷ event Write 2 0 tt tt ∷ []

-- 0w0 1r0 2w0: three threads at one variable
abbrev pub three_accesses : List Event
three_accesses = event Write 0 0 tt tt ∷ event Read 1 0 tt tt ∷ event Write 2 0 tt tt ∷ []

-- 0a0 0w0 1w0: a write under a lock and one without
abbrev pub one_locked : List Event
one_locked = event Acquire 0 0 tt tt ∷ event Write 0 0 tt tt ∷ event Write 1 0 tt tt ∷ []

-- 0a0 0a0 0z0 0w0 0z0 1w0 1a0 1w0: a thread takes a lock again, and writes after it has given it back once; another writes before and inside a section
abbrev pub inner_section : List Event
inner_section =
    event Acquire 0 0 tt tt ∷ event Acquire 0 0 tt tt ∷ event Release 0 0 tt tt ∷ event Write 0 0 tt tt ∷ event Release 0 0 tt tt
    ∷ event Write 1 0 tt tt ∷ event Acquire 1 0 tt tt ∷ event Write 1 0 tt tt ∷ []

-- 0w0 0s1 1w0 0w0 0j1 0w0: a parent writes, starts a worker that writes too, writes again, awaits the worker and writes
abbrev pub worker_awaited : List Event
worker_awaited =
    event Write 0 0 tt tt ∷ event Spawn 0 1 tt tt ∷ event Write 1 0 tt tt ∷ event Write 0 0 tt tt ∷ event Join 0 1 tt tt ∷ event Write 0 0 tt tt ∷ []
