-- What the table of threads says.
use Rattle.std.specs.Prelude.{ℕ, false, Option, slice_index_or}
use Rattle.trace.specs.declared.event.Event.{Event}
use Rattle.trace.specs.declared.life.Life.{Life}
use Rattle.trace.specs.declared.threads.ThreadTable.{ThreadTable}
use Rattle.trace.specs.Traces.{Lives, ended_refusal, thread_refusal, or_else}

-- nothing is known of a thread
abbrev pub unknown : Life
unknown = record { begun = false; named = false; joined = false }

-- what the table has of each thread
abbrev pub lives : ThreadTable → Lives
lives table p = slice_index_or table.lives p unknown

-- why the trace check turns the event e away for what is known of the threads, if it does
abbrev pub life_refusal : Lives → Event → Option ℕ
life_refusal known e = or_else (ended_refusal (known e.thread)) (thread_refusal e.kind e.thread e.subject (known e.subject))
