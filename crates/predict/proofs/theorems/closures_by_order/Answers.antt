-- The proofs of the theorems of `closures_by_order`.
use Rattle.predict.proofs.theorems.closures_by_order.Goals as goal
use Rattle.predict.proofs.RuleClosures.{before_seeds, schedulable_seeds, before_seed, schedulable_seed}

pub returns : goal.returns
returns c = record { seeds = (before_seeds, schedulable_seeds); seed = (before_seed, schedulable_seed) }
