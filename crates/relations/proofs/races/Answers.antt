-- The examples of races.
use Rattle.relations.proofs.races.Goals as goal
use Rattle.relations.proofs.Racing.{other_verdict, other_answer, other_refusal, schedulable_pair, witness_closed, least_shown, section_shown, witness_fits}
use Rattle.relations.proofs.Partnering.{pairs_that_race, both_partners, acquire_alone, partners_fit, refused_partners}
use Rattle.relations.proofs.Sweeping.{pairs_in_order, sweep_whole, sweep_fits}

pub returns : goal.returns
returns c = (
  other_verdict,
  other_answer,
  other_refusal,
  schedulable_pair,
  witness_closed,
  least_shown,
  section_shown,
  witness_fits,
  pairs_that_race,
  both_partners,
  acquire_alone,
  partners_fit,
  refused_partners,
  pairs_in_order,
  sweep_whole,
  sweep_fits,
)
