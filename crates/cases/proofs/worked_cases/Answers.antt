-- The proofs of the worked examples.
use Rattle.cases.proofs.worked_cases.Goals as goal
use Rattle.cases.proofs.Judging.{all_admitted, sections_race, sections_ordered, locked_no_race, read_no_race, read_races, chain_no_race, one_locked_races, inner_races, worker_races}
use Rattle.cases.proofs.Sweeping.{three_swept}
use Rattle.cases.proofs.Vetting.{witness_vetted}
use Rattle.cases.proofs.Entering.{locks_by_holder, locks_deep, threads_by_life, pairs_refused, last_subjects, subjects_refused, dump_lengths, last_room}

pub returns : goal.returns
returns c = (
  all_admitted,
  sections_race,
  sections_ordered,
  locked_no_race,
  read_no_race,
  read_races,
  chain_no_race,
  three_swept,
  one_locked_races,
  inner_races,
  worker_races,
  witness_vetted,
  locks_by_holder,
  locks_deep,
  threads_by_life,
  pairs_refused,
  last_subjects,
  subjects_refused,
  dump_lengths,
  last_room,
)
