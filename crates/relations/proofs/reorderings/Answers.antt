-- The examples of reorderings.
use Rattle.relations.proofs.reorderings.Goals as goal
use Rattle.relations.proofs.Reordering.{ascending_only, latest_behind, in_trace_only, once_only, thread_order_kept, locks_kept, reads_kept, spawns_kept, awaited_kept, enabled_once_spawned, enabled_after_all, sections_swapped, swap_refused, section_reorders}

pub returns : goal.returns
returns c = (
  ascending_only,
  latest_behind,
  in_trace_only,
  once_only,
  thread_order_kept,
  locks_kept,
  reads_kept,
  spawns_kept,
  awaited_kept,
  enabled_once_spawned,
  enabled_after_all,
  sections_swapped,
  swap_refused,
  section_reorders,
)
