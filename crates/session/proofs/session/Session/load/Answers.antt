use Rattle.std.proofs.Common.{◌/◌, length, arith}
use Rattle.session.proofs.Loading.{length_refused}
use Rattle.session.proofs.session.Session.load.Goals as goal

pub returns-then-not-is_whole : goal.returns-then-not-is_whole
returns-then-not-is_whole g c =
    rw c.from-fault.ensures
    (length_refused c.args.self.now c.args.dump.now
    (λ none. let whole = c.is_whole.ensures.1 (length c.args.dump.now / 8, omega arith) in let cut = c.if-not-is_whole.true in absurd (grind arith)))
