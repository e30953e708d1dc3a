-- What bytes mean as a record, and the record of an event. A record has eight bytes: the kind, the thread, the subject in two and the site
-- in four, numbers low byte first.
use Rattle.std.specs.Prelude.{ℕ, ◌+◌, ◌*◌, ◌/◌, ◌%◌, cond, List, [], ◌∷◌, length, Some, None, Ok, Err, Option, Result, ◌==◌, slice_index}
use Rattle.std.proofs.Math.Logic.{dite}
use Rattle.std.proofs.Math.Decide.{dec_lt}
use Rattle.trace.specs.declared.event.Event.{Event}
use Rattle.trace.specs.declared.kind.Kind.{Kind}
use Rattle.trace.specs.declared.kind.Kind.TheVariants.{Read, Write, Acquire, Release, Spawn, Join}
use Rattle.trace.specs.Limits.{threads, subjects}

-- the number of a kind
abbrev pub number : Kind → ℕ
number Read = 1
number Write = 2
number Acquire = 3
number Release = 4
number Spawn = 5
number Join = 6

-- the kind with a number
abbrev pub kind_of : ℕ → Option Kind
kind_of n = cond (n == 1) (Some Read) (cond (n == 2) (Some Write) (cond (n == 3) (Some Acquire)
    (cond (n == 4) (Some Release) (cond (n == 5) (Some Spawn) (cond (n == 6) (Some Join) None)))))

-- the event of these parts; refused with 3 where the thread is not within its limit, else with 4 where the subject is not
abbrev pub event_of : Kind → ℕ → ℕ → ℕ → Result Event ℕ
event_of k t x i =
    dite (dec_lt t threads)
    (λ p. dite (dec_lt x (subjects k))
    (λ q. Ok (record { kind = k; thread = t; subject = x; site = i; known_thread = p; known_subject = q }))
    (λ _. Err 4))
    (λ _. Err 3)

-- the same where the kind may be unknown, which is refused with 2
abbrev pub event_if_known : Option Kind → ℕ → ℕ → ℕ → Result Event ℕ
event_if_known None t x i = Err 2
event_if_known (Some k) t x i = event_of k t x i

-- what bytes mean: an event, or the number of the first refusal; 1 where they are not eight
abbrev pub meaning : List ℕ → Result Event ℕ
meaning bytes =
    cond (length bytes == 8)
    (event_if_known (kind_of (slice_index bytes 0)) (slice_index bytes 1)
    (slice_index bytes 2 + slice_index bytes 3 * 256)
    (slice_index bytes 4 + slice_index bytes 5 * 256 + slice_index bytes 6 * 65536 + slice_index bytes 7 * 16777216))
    (Err 1)

-- the record of an event
abbrev pub record_of : Event → List ℕ
record_of e =
    number e.kind ∷ e.thread ∷ (e.subject % 256) ∷ (e.subject / 256)
    ∷ (e.site % 256) ∷ (e.site / 256 % 256) ∷ (e.site / 65536 % 256) ∷ (e.site / 16777216) ∷ []
