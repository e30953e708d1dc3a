-- The lookups compute: their answers on two small traces.
use Rattle.std.proofs.Common.{◌≡◌, ℕ, ◌<◌, List, [], ◌∷◌, Some, None, refl, arith}
use Rattle.trace.specs.Limits.{threads, subjects}
use Rattle.trace.specs.declared.event.Event.{Event}
use Rattle.trace.specs.declared.kind.Kind.{Kind}
use Rattle.trace.specs.declared.kind.Kind.TheVariants.{Read, Write, Acquire, Release}
use Rattle.trace.specs.Lookups.{previous, last_write, release_of}

-- an event of a thread on a subject
abbrev event : (kind : Kind) (thread subject : ℕ) → thread < threads → subject < subjects kind → Event
event kind thread subject p q = record { kind = kind; thread = thread; subject = subject; site = 0; known_thread = p; known_subject = q }

-- thread 0 writes the variables 0 and 1, then thread 1 reads 1, writes 0 and reads 2
abbrev reads_and_writes : List Event
reads_and_writes =
    event Write 0 0 (omega arith) (omega arith) ∷
    event Write 0 1 (omega arith) (omega arith) ∷
    event Read 1 1 (omega arith) (omega arith) ∷
    event Write 1 0 (omega arith) (omega arith) ∷
    event Read 1 2 (omega arith) (omega arith) ∷
    []

-- the previous events of some positions; past the end there is none
previous_events :
    (previous reads_and_writes 1 ≡ Some 0) × (previous reads_and_writes 2 ≡ None) × (previous reads_and_writes 3 ≡ Some 2)
    × (previous reads_and_writes 5 ≡ None)
previous_events = (refl, refl, refl, refl)

-- the last writes; a write has none, nor has a read of a variable that was not written
last_writes : (last_write reads_and_writes 2 ≡ Some 1) × (last_write reads_and_writes 3 ≡ None) × (last_write reads_and_writes 4 ≡ None)
last_writes = (refl, refl, refl)

-- thread 0 takes the lock 5, inside it 6 and 5 again, and gives them back, then thread 1 takes 5
abbrev sections : List Event
sections =
    event Acquire 0 5 (omega arith) (omega arith) ∷
    event Acquire 0 6 (omega arith) (omega arith) ∷
    event Acquire 0 5 (omega arith) (omega arith) ∷
    event Release 0 5 (omega arith) (omega arith) ∷
    event Release 0 6 (omega arith) (omega arith) ∷
    event Release 0 5 (omega arith) (omega arith) ∷
    event Acquire 1 5 (omega arith) (omega arith) ∷
    []

-- the releases; that of the first acquire is not the inner one, and the last acquire has none
releases : (release_of sections 0 ≡ Some 5) × (release_of sections 1 ≡ Some 4) × (release_of sections 6 ≡ None)
releases = (refl, refl, refl)
