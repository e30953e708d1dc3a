-- The proofs of the theorems of `entering_all`.
use Rattle.session.proofs.theorems.entering_all.Goals as goal
use Rattle.session.proofs.Loading.{enter_all_takes, enter_all_adds, enter_all_stops}

pub returns : goal.returns
returns c = (enter_all_takes, enter_all_adds, enter_all_stops)
