-- The examples of the two orders.
use Rattle.std.proofs.Common.{ℕ, List, [], ◌∷◌, refl, ◌∙◌, subst, arith, lit<}
use Rattle.std.proofs.lemmas.Bool.{false≢true}
use Rattle.trace.specs.declared.event.Event.{Event}
use Rattle.trace.specs.declared.kind.Kind.TheVariants.{Write, Acquire, Release, Spawn, Join}
use Rattle.trace.specs.Traces.{Admits}
use Rattle.trace.specs.Cuts.{Positions, In, Closure, HappensBeforeWants, SchedulableWants}
use Rattle.trace.specs.Orders.{HappensBefore, SchedulableHappensBefore}
use Rattle.trace.specs.Orders.HappensBefore.{in_thread, spawned, event_awaited, released, chain}
use Rattle.trace.specs.Orders.SchedulableHappensBefore.{in_thread as scheduled_in_thread, read_from, chain as scheduled_chain}
use Rattle.trace.proofs.Closures.{closure_unique}
use Rattle.trace.proofs.Lookups.{last_write_found}
use Rattle.trace.proofs.Orders.{happens_before_seed, schedulable_before_seed}
use Rattle.trace.proofs.Rules.{happens_before_laws, schedulable_laws}
use Rattle.predict.specs.Held.{SeedsWithin}
use Rattle.predict.proofs.Existence.{closes}
use Rattle.predict.proofs.RuleTests.{happens_before_test, schedulable_test, happens_before_decided, schedulable_decided}
use Rattle.predict.proofs.Tests.{is_earlier}
use Rattle.session.proofs.Asked.{previous_is, previous_only}
use Rattle.cases.specs.Examples.{event, sections_between, read_between, through_section, worker_awaited}
use Rattle.cases.proofs.Closing.{with_earlier, closure_by}
use Rattle.cases.proofs.Judging.{read_admitted, chain_admitted, worker_admitted}
use Rattle.relations.specs.Orders.{ReleaseFirst, SectionsInOrder, NotBeforeByRead, WorkerInOrder, ReadInOrder, NotScheduledByOther}

pub release_first : ReleaseFirst
release_first = (
  record {
    before = lit< tt;
    acquire = event Acquire 1 0 tt tt;
    release = event Release 0 0 tt tt;
    acquires = record { is = refl; is_acquire = refl; outside = refl };
    frees = record { is = refl; is_release = refl; last = refl };
    same_lock = refl;
  },
  λ r. let is = r.frees.is in let kind = r.frees.is_release in grind arith,
)

-- what is before q is in the closure of q
module _ (t : List Event) (q : ℕ) (c : Positions) (admitted : Admits t) where
  in_closure : Closure HappensBeforeWants t (q ∷ []) c → (p : ℕ) → HappensBefore t p q → In p c
  in_closure closure p h =
      let within : SeedsWithin t (q ∷ []) = λ s m. closure.cut.in_trace s (closure.seeded s m) in
      let (b, d) = closes HappensBeforeWants happens_before_laws _ happens_before_decided t admitted (q ∷ []) within in
      closure_unique HappensBeforeWants t (q ∷ []) c _ closure d.closure p ∙ (happens_before_seed t q _ d.closure d.reached p).1 h

  in_schedulable : Closure SchedulableWants t (q ∷ []) c → (p : ℕ) → SchedulableHappensBefore t p q → In p c
  in_schedulable closure p h =
      let within : SeedsWithin t (q ∷ []) = λ s m. closure.cut.in_trace s (closure.seeded s m) in
      let (b, d) = closes SchedulableWants schedulable_laws _ schedulable_decided t admitted (q ∷ []) within in
      closure_unique SchedulableWants t (q ∷ []) c _ closure d.closure p ∙ (schedulable_before_seed t q _ d.closure d.reached p).1 h

happens_in : HappensBefore sections_between 0 5
happens_in =
    chain (in_thread (is_earlier sections_between 0 2 refl))
    (chain (released release_first.0) (in_thread (is_earlier sections_between 3 5 refl)))

happens_out : HappensBefore read_between 0 3 → ⊥
happens_out h = false≢true (in_closure read_between 3 (with_earlier read_between (3 ∷ [])) read_admitted
    (closure_by HappensBeforeWants happens_before_laws happens_before_test happens_before_decided read_between read_admitted (3 ∷ []) (3 ∷ []) refl) 0 h)

pub sections_in_order : SectionsInOrder
sections_in_order = (happens_in, happens_out)

pub not_before_by_read : NotBeforeByRead
not_before_by_read = (happens_out, λ n. n happens_in)

worker_out : HappensBefore worker_awaited 2 3 → ⊥
worker_out h = false≢true (in_closure worker_awaited 3 (with_earlier worker_awaited (3 ∷ [])) worker_admitted
    (closure_by HappensBeforeWants happens_before_laws happens_before_test happens_before_decided worker_awaited worker_admitted (3 ∷ []) (3 ∷ []) refl) 2 h)

pub worker_in_order : WorkerInOrder
worker_in_order = (
  spawned (record {
    before = lit< tt;
    spawn = event Spawn 0 1 tt tt;
    event = event Write 1 0 tt tt;
    spawn_is = refl;
    event_is = refl;
    is_spawn = refl;
    names = refl;
  }),
  event_awaited (record {
    before = lit< tt;
    event = event Write 1 0 tt tt;
    join = event Join 0 1 tt tt;
    event_is = refl;
    join_is = refl;
    is_join = refl;
    names = refl;
  }),
  worker_out,
)

scheduled_in : SchedulableHappensBefore read_between 0 2
scheduled_in =
    scheduled_chain (scheduled_in_thread (is_earlier read_between 0 1 refl)) (read_from (((last_write_found read_between 2).0 1).0 refl))

scheduled_out : SchedulableHappensBefore through_section 1 3 → ⊥
scheduled_out h = false≢true (in_schedulable through_section 3 (with_earlier through_section (3 ∷ [])) chain_admitted
    (closure_by SchedulableWants schedulable_laws schedulable_test schedulable_decided through_section chain_admitted (3 ∷ []) (3 ∷ []) refl) 1 h)

pub read_in_order : ReadInOrder
read_in_order = (scheduled_in, scheduled_out)

pub not_scheduled_by_other : NotScheduledByOther
not_scheduled_by_other = (
  λ d p h. scheduled_out (subst (SchedulableHappensBefore through_section 1) (previous_only through_section 4 3 refl d p) h),
  λ n. n 2 (previous_is read_between 3 2 refl) scheduled_in,
)
