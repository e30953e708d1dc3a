-- The proofs of the theorems of `reaching_closures`.
use Rattle.predict.proofs.theorems.reaching_closures.Goals as goal
use Rattle.trace.specs.Cuts.{SyncWants, HappensBeforeWants, SchedulableWants}
use Rattle.predict.proofs.RuleClosures.{reaching, sync_existing, happens_before_existing, schedulable_existing}

pub returns : goal.returns
returns c = (
  reaching SyncWants sync_existing,
  reaching HappensBeforeWants happens_before_existing,
  reaching SchedulableWants schedulable_existing,
)
