-- The proofs of the theorems of `entering`.
use Rattle.session.proofs.theorems.entering.Goals as goal
use Rattle.session.proofs.Loading.{enter_takes, enter_adds, enter_keeps}

pub returns : goal.returns
returns c = (enter_takes, enter_adds, enter_keeps)
