-- The proofs of the theorems of `existing_closures`.
use Rattle.predict.proofs.theorems.existing_closures.Goals as goal
use Rattle.predict.proofs.RuleClosures.{sync_existing, happens_before_existing, schedulable_existing}

pub returns : goal.returns
returns c = (sync_existing, happens_before_existing, schedulable_existing)
