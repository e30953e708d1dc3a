-- The rule of schedulable happens-before wants all that the other two rules want, so its closures hold theirs.
use Rattle.std.proofs.Common.{◌≡◌, ℕ, List}
use Rattle.trace.specs.declared.event.Event.{Event}
use Rattle.trace.specs.Traces.{Admits}
use Rattle.trace.specs.Cuts.{Positions, SyncWants, HappensBeforeWants, SchedulableWants}
use Rattle.trace.specs.Cuts.SyncWants.{of_threads, last_write, earlier_release}
use Rattle.trace.specs.Cuts.HappensBeforeWants.{of_threads as before_threads, release_before}
use Rattle.trace.specs.Cuts.SchedulableWants.{as_before, last_write as of_read}
use Rattle.trace.specs.ClosureTheorems.{SyncInsideSchedulable, HappensBeforeInsideSchedulable}
use Rattle.trace.proofs.Events.{at_same}
use Rattle.trace.proofs.Releases.{release_before_next}
use Rattle.trace.proofs.Closures.{closure_inside}

-- what the sync rule wants, the rule of schedulable happens-before wants
pub sync_wants_schedulable : (t : List Event) (c : Positions) (w : ℕ) → Admits t → SyncWants t c w → SchedulableWants t c w
sync_wants_schedulable t c w ok (of_threads h) = as_before (before_threads h)
sync_wants_schedulable t c w ok (last_write i lw) = of_read i lw
sync_wants_schedulable t c w ok (earlier_release {a} {b} {e} {f} i j lt p q same rel) =
    let e_is : e ≡ rel.acquire = at_same t a e rel.acquire p.is rel.acquire_is in
    let before = release_before_next t a b e f ok lt p q same w rel in
    as_before (release_before j before q rel.frees (cc (rel.same_lock)))

-- so its closures hold those under the sync rule
pub sync_inside_schedulable : SyncInsideSchedulable
sync_inside_schedulable t ss c d ok = closure_inside SyncWants SchedulableWants t ss c d (λ e w cut h. sync_wants_schedulable t e w ok h)

-- and those under the rule of happens-before
pub happens_before_inside_schedulable : HappensBeforeInsideSchedulable
happens_before_inside_schedulable t ss c d = closure_inside HappensBeforeWants SchedulableWants t ss c d (λ e w cut h. as_before h)
