-- The proofs of the theorems of `threads`.
use Rattle.trace.proofs.theorems.threads.Goals as goal
use Rattle.trace.proofs.Started.{spawns_first, joins_last}

pub returns : goal.returns
returns c = (spawns_first, joins_last)
