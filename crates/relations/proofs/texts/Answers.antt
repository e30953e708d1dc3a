-- The examples of texts.
use Rattle.relations.proofs.texts.Goals as goal
use Rattle.relations.proofs.Printing.{line_of_pair, all_lines, pairs_reported, records_reported, cut_reported, nothing_reported, refusals_answered, records_answered, race_told, witness_shown, partners_listed, races_found, line_told, line_alone}

pub returns : goal.returns
returns c = (
  line_of_pair,
  all_lines,
  pairs_reported,
  records_reported,
  cut_reported,
  nothing_reported,
  refusals_answered,
  records_answered,
  race_told,
  witness_shown,
  partners_listed,
  races_found,
  line_told,
  line_alone,
)
