use Rattle.reel.proofs.Lent.{lent_stays, lent_records, lent_together}
use Rattle.reel.proofs.theorems.lent_bytes.Goals as goal

pub returns : goal.returns
returns c = (lent_stays, lent_records, lent_together)
