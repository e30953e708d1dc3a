-- The examples of orders.
use Rattle.relations.proofs.orders.Goals as goal
use Rattle.relations.proofs.Ordering.{release_first, sections_in_order, not_before_by_read, worker_in_order, read_in_order, not_scheduled_by_other}

pub returns : goal.returns
returns c = (
  release_first,
  sections_in_order,
  not_before_by_read,
  worker_in_order,
  read_in_order,
  not_scheduled_by_other,
)
