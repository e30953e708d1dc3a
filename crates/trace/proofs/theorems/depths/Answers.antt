-- The proofs of the theorems of `depths`.
use Rattle.trace.proofs.theorems.depths.Goals as goal
use Rattle.trace.proofs.Depths.{held_as_deep}
use Rattle.trace.proofs.Owning.{depth_kept}

pub returns : goal.returns
returns c = (held_as_deep, depth_kept)
