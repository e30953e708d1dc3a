-- The proof of the theorem of `deciding`.
use Rattle.report.proofs.theorems.deciding.Goals as goal
use Rattle.report.proofs.Deciding.{deciding}

pub returns : goal.returns
returns c = deciding
