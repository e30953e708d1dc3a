-- The examples of what a host is answered.
use Rattle.host.proofs.examples.host_answers.Goals as goal
use Rattle.host.proofs.Answering.{empty_dump, cut_dump, race_dump, one_answer}

pub returns : goal.returns
returns c = (empty_dump, cut_dump, race_dump, one_answer)
