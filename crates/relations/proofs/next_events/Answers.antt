-- The examples of events that may come next.
use Rattle.relations.proofs.next_events.Goals as goal
use Rattle.relations.proofs.Coming.{acquires_agree, thread_had, read_agrees, acquire_comes, table_answered}

pub returns : goal.returns
returns c = (
  acquires_agree,
  thread_had,
  read_agrees,
  acquire_comes,
  table_answered,
)
