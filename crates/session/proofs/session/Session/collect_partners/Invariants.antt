-- The partners so far are added.
use Rattle.std.proofs.Common.{ℕ, List, map}
use Rattle.answer.specs.Collectors.{Adds}
use Rattle.session.proofs.Partnering.{PartnersBelow}
use Rattle.session.proofs.session.Session.collect_partners.Given as goal

abbrev pub invariant-loop-p : goal.invariant-loop-p
invariant-loop-p g l =
    (ps : List ℕ) × PartnersBelow l.self.trace l.q l.p ps × Adds (map (λ p. g.T.Entry.entry p l.q) ps) l.initial.out l.out
