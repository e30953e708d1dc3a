-- The examples of entries.
use Rattle.relations.proofs.entries.Goals as goal
use Rattle.relations.proofs.Entering.{event_taken, full_refuses, recorded_as_read, stands_up_to_date}

pub returns : goal.returns
returns c = (
  event_taken,
  full_refuses,
  recorded_as_read,
  stands_up_to_date,
)
