-- The examples of rules.
use Rattle.relations.proofs.rules.Goals as goal
use Rattle.relations.proofs.Wanting.{laws_need_cause, sync_of_two, sync_of_read, threads_wanted, release_wanted, both_wanted, halves_of_sync, release_missed, missed_outside, search_enough}

pub returns : goal.returns
returns c = (
  laws_need_cause,
  sync_of_two,
  sync_of_read,
  threads_wanted,
  release_wanted,
  both_wanted,
  halves_of_sync,
  release_missed,
  missed_outside,
  search_enough,
)
