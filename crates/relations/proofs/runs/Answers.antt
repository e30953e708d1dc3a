-- The examples of runs.
use Rattle.relations.proofs.runs.Goals as goal
use Rattle.relations.proofs.Running.{verdict_says, list_says, full_served, cut_served, verdict_served, empty_upheld, entered_stays, race_once_entered, verdict_stays, witness_agrees, witness_stays}

pub returns : goal.returns
returns c = (
  verdict_says,
  list_says,
  full_served,
  cut_served,
  verdict_served,
  empty_upheld,
  entered_stays,
  race_once_entered,
  verdict_stays,
  witness_agrees,
  witness_stays,
)
