-- Each list that goes on from another has one position less to come.
use Rattle.exhaustive.proofs.search.Search.+explore.Given as goal

abbrev pub decreases-explore : goal.decreases-explore
decreases-explore l = l.left
