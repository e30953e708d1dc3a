-- The examples of buffers.
use Rattle.relations.proofs.buffers.Goals as goal
use Rattle.relations.proofs.Buffering.{filled_at_start, filled_when_short, filled_collects, collected_at_start, offered_counts, adds_count}

pub returns : goal.returns
returns c = (
  filled_at_start,
  filled_when_short,
  filled_collects,
  collected_at_start,
  offered_counts,
  adds_count,
)
