-- How many threads, variables and locks a trace may name; each is numbered from 0.
use Rattle.std.specs.Prelude.{ℕ, Bool, true, false}
use Rattle.trace.specs.declared.kind.Kind.{Kind}
use Rattle.trace.specs.declared.kind.Kind.TheVariants.{Read, Write, Acquire, Release, Spawn, Join}

-- threads have numbers below this
abbrev pub threads : ℕ
threads = 16

-- and locks below this
abbrev pub locks : ℕ
locks = 200

-- a lock is held this deep at most
abbrev pub deepest : ℕ
deepest = 255

-- whether an event of a kind touches a variable
abbrev pub accesses : Kind → Bool
accesses Read = true
accesses Write = true
accesses Acquire = false
accesses Release = false
accesses Spawn = false
accesses Join = false

-- whether it touches a lock
abbrev pub on_lock : Kind → Bool
on_lock Read = false
on_lock Write = false
on_lock Acquire = true
on_lock Release = true
on_lock Spawn = false
on_lock Join = false

-- the subject of an event of a kind is below this: there are 1,024 variables, and the subject of a spawn or a join is a thread
abbrev pub subjects : Kind → ℕ
subjects Read = 1024
subjects Write = 1024
subjects Acquire = locks
subjects Release = locks
subjects Spawn = threads
subjects Join = threads
