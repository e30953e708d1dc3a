use Rattle.std.proofs.Common.{rules}
use Rattle.reorder.proofs.vet.leaves.Goals as goal

pub returns : goal.returns
returns g c = (λ q. search rules, λ l. search rules)
