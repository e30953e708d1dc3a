-- Each trace that goes on from another has one event less to come.
use Rattle.exhaustive.proofs.all.Walk.+go_on.Given as goal

abbrev pub decreases-go_on : goal.decreases-go_on
decreases-go_on l = l.left
