-- Which two events conflict.
use Rattle.std.specs.Prelude.{Bool, not, ◌&&◌, ◌||◌, ◌==◌}
use Rattle.trace.specs.declared.event.Event.{Event}
use Rattle.trace.specs.Limits.{accesses}
use Rattle.trace.specs.Lookups.{writing}

-- two threads touch the same variable, and one of them or both write it
abbrev pub conflict : Event → Event → Bool
conflict e f =
    (accesses e.kind && accesses f.kind) && (e.subject == f.subject && (not (e.thread == f.thread) && (writing e.kind || writing f.kind)))
