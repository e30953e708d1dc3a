use Rattle.trace.proofs.LockTables.{starts_empty}
use Rattle.trace.proofs.locks.LockTable.new.Goals as goal

pub returns : goal.returns
returns c = starts_empty
