-- The examples of traces.
use Rattle.relations.proofs.traces.Goals as goal
use Rattle.relations.proofs.Tracing.{no_second_holder, none_joined, spawned_once, previous_latest, previous_spawn, last_write_of_variable, release_of_thread, release_frees, table_changes, held_turned_away, taken_with_room}

pub returns : goal.returns
returns c = (
  no_second_holder,
  none_joined,
  spawned_once,
  previous_latest,
  previous_spawn,
  last_write_of_variable,
  release_of_thread,
  release_frees,
  table_changes,
  held_turned_away,
  taken_with_room,
)
