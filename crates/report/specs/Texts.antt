-- The texts that the programs print. Each line ends with a line feed, and numbers are decimal.
use Rattle.std.specs.Prelude.{◌≡◌, ℕ, suc, ◌+◌, cond, List, [], ◌∷◌, ◌++◌, length, Ok, Err, codes, decimal, Result, nat_lt}
use Rattle.trace.specs.declared.event.Event.{Event}
use Rattle.trace.specs.declared.kind.Kind.{Kind}
use Rattle.trace.specs.declared.kind.Kind.TheVariants.{Read, Write, Acquire, Release, Spawn, Join}
use Rattle.trace.specs.Traces.{depth_at}
use Rattle.answer.specs.Faults.{Refusal}

-- what an event of a kind does, and to what
abbrev pub deed : Kind → List ℕ
deed Read = codes "reads variable"
deed Write = codes "writes variable"
deed Acquire = codes "acquires lock"
deed Release = codes "releases lock"
deed Spawn = codes "spawns thread"
deed Join = codes "joins thread"

-- how deep the hold is that an acquire makes, or that a release ends, where the thread is n deep in the lock before it; the other kinds have none
abbrev pub level : Kind → ℕ → ℕ
level Read n = 0
level Write n = 0
level Acquire n = suc n
level Release n = n
level Spawn n = 0
level Join n = 0

-- how deep a hold is, where it is deeper than once
abbrev pub at_depth : ℕ → List ℕ
at_depth n = cond (nat_lt 1 n) (codes " at depth " ++ decimal n) []

-- the line of the event at position k, whose thread is n deep in its lock before it
abbrev pub event_line : ℕ → Event → ℕ → List ℕ
event_line k e n =
    decimal k ++ (codes " thread " ++ (decimal e.thread ++ (codes " " ++ (deed e.kind ++ (codes " " ++ (decimal e.subject
    ++ (at_depth (level e.kind n) ++ (codes " site " ++ (decimal e.site ++ codes "\n")))))))))

-- the lines of events that stand from position k on in the trace t
abbrev pub event_lines : List Event → ℕ → List Event → List ℕ
event_lines t k [] = []
event_lines t k (e ∷ es) = event_line k e (depth_at t k e) ++ event_lines t (k + 1) es

-- the line with the number of events
abbrev pub events_line : ℕ → List ℕ
events_line n = codes "events " ++ (decimal n ++ codes "\n")

-- the listing of a trace
abbrev pub listing : List Event → List ℕ
listing t = event_lines t 0 t ++ events_line (length t)

-- the line of a refusal
abbrev pub refusal_line : Refusal → List ℕ
refusal_line r = codes "refused " ++ (decimal r.number ++ (codes " record " ++ (decimal r.index ++ codes "\n")))

-- a text where the records of an input are entered first: the line of the first refusal, or what is said of their events
abbrev pub After : (List Event → List ℕ → Type 0) → Result ℕ Refusal → List Event → List ℕ → Type 0
After says (Ok n) t text = says t text
After says (Err r) t text = text ≡ refusal_line r
