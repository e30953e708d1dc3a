-- The examples of closures.
use Rattle.relations.proofs.closures.Goals as goal
use Rattle.relations.proofs.Closing.{cut_from_first, less_inside, closed_with_release, closure_least, seeds_previous, seeds_in_trace, release_reached, closes_just_between, outside_sections, found_outside}

pub returns : goal.returns
returns c = (
  cut_from_first,
  less_inside,
  closed_with_release,
  closure_least,
  seeds_previous,
  seeds_in_trace,
  release_reached,
  closes_just_between,
  outside_sections,
  found_outside,
)
