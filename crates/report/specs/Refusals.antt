-- Why a record or a question is refused, in words.
use Rattle.std.specs.Prelude.{ℕ, ◌+◌, ◌*◌, cond, List, ◌++◌, length, take, drop, Some, None, Option, codes, decimal, ◌==◌, slice_index}
use Rattle.trace.specs.declared.kind.Kind.{Kind}
use Rattle.trace.specs.declared.kind.Kind.TheVariants.{Read, Write, Acquire, Release, Spawn, Join}
use Rattle.trace.specs.Limits.{threads, locks, subjects, deepest}
use Rattle.trace.specs.Records.{kind_of}
use Rattle.answer.specs.Faults.{Refusal}

-- record i of an input
abbrev pub record_at : List ℕ → ℕ → List ℕ
record_at input i = take 8 (drop (8 * i) input)

-- the number of the variable, the lock or the thread that a record names
abbrev pub subject_in : List ℕ → ℕ
subject_in bytes = slice_index bytes 2 + slice_index bytes 3 * 256

-- what an event of a kind names
abbrev pub named : Kind → List ℕ
named Read = codes "variable "
named Write = codes "variable "
named Acquire = codes "lock "
named Release = codes "lock "
named Spawn = codes "spawned thread "
named Join = codes "joined thread "

-- a variable, a lock or a thread that is past the last one, by the kind of the event that names it
abbrev pub past_limit : Option Kind → ℕ → List ℕ
past_limit None subject = codes "lock " ++ (decimal subject ++ (codes " is not below " ++ decimal locks))
past_limit (Some kind) subject = named kind ++ (decimal subject ++ (codes " is not below " ++ decimal (subjects kind)))

-- why the trace check turns away, with a number, an event of a thread on a subject
abbrev pub trace_words : ℕ → ℕ → ℕ → List ℕ
trace_words thread subject number =
    cond (number == 15) (codes "thread " ++ (decimal thread ++ codes " was joined by an earlier event"))
    (cond (number == 14)
    (cond (thread == subject) (codes "thread " ++ (decimal thread ++ codes " cannot spawn or join itself"))
    (codes "spawns thread " ++ (decimal subject ++ codes ", which has events, or was spawned or joined before")))
    (cond (number == 5) (codes "acquires lock " ++ (decimal subject ++ codes ", which another thread holds"))
    (cond (number == 13)
    (codes "acquires lock " ++ (decimal subject ++ (codes ", which thread " ++ (decimal thread
    ++ (codes " would hold more than " ++ (decimal deepest ++ codes " deep"))))))
    (codes "releases lock " ++ (decimal subject ++ (codes ", which thread " ++ (decimal thread ++ codes " does not hold")))))))

-- why a record is refused with a number, where there is room for so many events
abbrev pub record_words : ℕ → List ℕ → ℕ → List ℕ
record_words room bytes number =
    cond (number == 1) (decimal (length bytes) ++ (codes " bytes, where a record has " ++ decimal 8))
    (cond (number == 2) (codes "there is no kind " ++ decimal (slice_index bytes 0))
    (cond (number == 3) (codes "thread " ++ (decimal (slice_index bytes 1) ++ (codes " is not below " ++ decimal threads)))
    (cond (number == 4) (past_limit (kind_of (slice_index bytes 0)) (subject_in bytes))
    (cond (number == 7) (codes "there is room for " ++ (decimal room ++ codes " events"))
    (trace_words (slice_index bytes 1) (subject_in bytes) number)))))

-- why a question is refused with a number, where there are so many events, and it is about the positions p and q
abbrev pub question_words : ℕ → ℕ → ℕ → ℕ → List ℕ
question_words count p q number =
    cond (number == 8) (codes "there are " ++ (decimal count ++ codes " events, counted from 0"))
    (cond (number == 9) (codes "event " ++ (decimal p ++ (codes " is not before event " ++ decimal q)))
    (cond (number == 10)
    (codes "events " ++ (decimal p ++ (codes " and " ++ (decimal q ++ codes " are not a write and another access of one variable by different threads"))))
    (cond (number == 11) (codes "events " ++ (decimal p ++ (codes " and " ++ (decimal q ++ codes " do not race"))))
    (codes "there are more entries than places"))))

-- the line of a refused record, with its words
abbrev pub refused_record : ℕ → List ℕ → Refusal → List ℕ
refused_record room input r =
    codes "refused " ++ (decimal r.number ++ (codes " record " ++ (decimal r.index ++ (codes ": "
    ++ (record_words room (record_at input r.index) r.number ++ codes "\n")))))

-- the line of a refused question, with its words
abbrev pub refused_question : ℕ → ℕ → ℕ → ℕ → List ℕ
refused_question count p q number = codes "refused " ++ (decimal number ++ (codes ": " ++ (question_words count p q number ++ codes "\n")))
