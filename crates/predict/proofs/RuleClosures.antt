-- The closures under the three rules: seeds have one, they reach each of its events, and under two of the rules these are the events before them in an order.
use Rattle.std.proofs.Common.{[], ◌∷◌, sym, ◌∙◌}
use Rattle.trace.specs.Cuts.{Wants, Laws, SyncWants, HappensBeforeWants, SchedulableWants}
use Rattle.trace.specs.Orders.{HappensBefore, SchedulableHappensBefore}
use Rattle.trace.proofs.Closures.{closure_unique}
use Rattle.trace.proofs.Rules.{sync_laws, happens_before_laws, schedulable_laws}
use Rattle.trace.proofs.Orders.{happens_before_seeds, schedulable_before_seeds, happens_before_seed, schedulable_before_seed}
use Rattle.predict.specs.Held.{held}
use Rattle.predict.specs.ClosureExists.{Existing, Reaching, JustBeforeSeeds, JustBefore}
use Rattle.predict.proofs.Existence.{closes}
use Rattle.predict.proofs.RuleTests.{Test, Decides, sync_decided, happens_before_decided, schedulable_decided}

-- under a rule that a test decides, seeds have a closure
existing : (wants : Wants) (laws : Laws wants) (test : Test) → Decides wants test → Existing wants
existing wants laws test decides t ss ok within =
    let (bounds, c) = closes wants laws test decides t ok ss within in
    (held t bounds, c.closure, c.reached)

pub sync_existing : Existing SyncWants
sync_existing = existing SyncWants sync_laws _ sync_decided

pub happens_before_existing : Existing HappensBeforeWants
happens_before_existing = existing HappensBeforeWants happens_before_laws _ happens_before_decided

pub schedulable_existing : Existing SchedulableWants
schedulable_existing = existing SchedulableWants schedulable_laws _ schedulable_decided

-- and since seeds have one closure at most, what holds of that one holds of each
pub reaching : (wants : Wants) → Existing wants → Reaching wants
reaching wants exists t ss c ok closure k i =
    let (d, other, reached) = exists t ss ok (λ s m. closure.cut.in_trace s (closure.seeded s m)) in
    reached k (sym (closure_unique wants t ss c d closure other k) ∙ i)

-- so closures are what stands at or before the seeds
pub before_seeds : JustBeforeSeeds HappensBeforeWants HappensBefore
before_seeds t ss c ok h = happens_before_seeds t ss c h (reaching HappensBeforeWants happens_before_existing t ss c ok h)

pub schedulable_seeds : JustBeforeSeeds SchedulableWants SchedulableHappensBefore
schedulable_seeds t ss c ok h = schedulable_before_seeds t ss c h (reaching SchedulableWants schedulable_existing t ss c ok h)

pub before_seed : JustBefore HappensBeforeWants HappensBefore
before_seed t q c ok h = happens_before_seed t q c h (reaching HappensBeforeWants happens_before_existing t (q ∷ []) c ok h)

pub schedulable_seed : JustBefore SchedulableWants SchedulableHappensBefore
schedulable_seed t q c ok h = schedulable_before_seed t q c h (reaching SchedulableWants schedulable_existing t (q ∷ []) c ok h)
