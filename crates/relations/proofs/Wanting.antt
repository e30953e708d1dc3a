-- The examples of rules.
use Rattle.std.proofs.Common.{◌≡◌, ℕ, ◌≤◌, false, List, [], replicate, get_or, set, sym, refl, ap, ◌∙◌, ⊎_elim, arith, lit<}
use Rattle.std.proofs.lemmas.List.{get_or-set_other}
use Rattle.std.proofs.lemmas.Bool.{cases_eq, false≢true, true≢false}
use Rattle.trace.specs.declared.event.Event.{Event}
use Rattle.trace.specs.declared.kind.Kind.TheVariants.{Acquire}
use Rattle.trace.specs.Limits.{locks}
use Rattle.trace.specs.Cuts.{Positions, In, SyncWants}
use Rattle.trace.specs.Cuts.SyncWants.{last_write, earlier_release}
use Rattle.trace.proofs.Growing.{empty_cut}
use Rattle.trace.proofs.Lookups.{last_write_found, release_found}
use Rattle.predict.specs.Held.{held}
use Rattle.predict.specs.Parts.{ReadWants, AcquireIn, LockWants}
use Rattle.predict.proofs.ClashParts.{zeros}
use Rattle.predict.proofs.RuleTests.{sync_decided, happens_before_decided, schedulable_decided}
use Rattle.cases.proofs.Judging.{locked_admitted}
use Rattle.cases.specs.Examples.{event, sections_between, writes_locked, read_between, worker_awaited}
use Rattle.relations.specs.Rules.{one, two, bounds, LawsNeedCause, SyncOfTwo, SyncOfRead, ThreadsWanted, ReleaseWanted, BothWanted, HalvesOfSync, ReleaseMissed, MissedOutside, SearchEnough}

pub laws_need_cause : LawsNeedCause
laws_need_cause l = let (k, r, b) = l.earlier [] (λ k. false) 5 tt (empty_cut []) refl in false≢true r

pub sync_of_two : SyncOfTwo
sync_of_two = (sync_decided.wanted writes_locked (two 0 3) 2 refl, λ h. false≢true (sync_decided.passes writes_locked (one 0) 2 h))

pub sync_of_read : SyncOfRead
sync_of_read = (sync_decided.wanted read_between (one 2) 1 refl, λ h. false≢true (sync_decided.passes read_between (one 2) 0 h))

pub threads_wanted : ThreadsWanted
threads_wanted = (
  sync_decided.wanted worker_awaited (one 2) 1 refl,
  sync_decided.wanted worker_awaited (one 4) 2 refl,
  λ h. false≢true (sync_decided.passes worker_awaited (one 3) 1 h),
  λ h. false≢true (sync_decided.passes worker_awaited (one 4) 3 h),
)

pub release_wanted : ReleaseWanted
release_wanted = (
  happens_before_decided.wanted sections_between (one 3) 2 refl,
  λ h. false≢true (happens_before_decided.passes sections_between (one 4) 2 h),
  λ h. false≢true (happens_before_decided.passes read_between (one 2) 1 h),
)

pub both_wanted : BothWanted
both_wanted = (
  schedulable_decided.wanted sections_between (one 3) 2 refl,
  schedulable_decided.wanted read_between (one 2) 1 refl,
  λ h. false≢true (schedulable_decided.passes read_between (one 2) 0 h),
)

-- both acquires want the release
wanted_release : SyncWants writes_locked (held writes_locked (bounds 1 4)) 2
wanted_release = sync_decided.wanted writes_locked (held writes_locked (bounds 1 4)) 2 refl

pub release_missed : ReleaseMissed
release_missed = (
  record { outside = record { in_trace = lit< tt; not_held = refl }; exact = λ ok. wanted_release },
  λ m. false≢true (m.exact locked_admitted 2 wanted_release),
  λ m. false≢true (sync_decided.passes writes_locked (held writes_locked (bounds 1 4)) 5 (m.exact locked_admitted)),
)

pub missed_outside : MissedOutside
missed_outside = (
  record { in_trace = lit< tt; not_held = refl },
  λ o. true≢false o.not_held,
  sync_decided.wanted writes_locked (held writes_locked (bounds 3 4)) 2 refl,
  λ m. true≢false m.outside.not_held,
)

-- each of the two is a part of the rule
of_read : (t : List Event) (c : Positions) (w : ℕ) → ReadWants t c w → SyncWants t c w
of_read t c w h = last_write h.inside h.last_write

of_lock : (t : List Event) (c : Positions) (w : ℕ) → LockWants t c w → SyncWants t c w
of_lock t c w h =
    let a = h.first_in in let b = h.second_in in
    earlier_release a.inside b.inside h.order a.outer b.outer (a.its_lock ∙ sym b.its_lock) h.release

-- the two acquires, in a cut that has them, and the release between
module _ (c : Positions) where
  abbrev first_in : In 0 c → AcquireIn writes_locked c 0 0
  first_in i = record { event = event Acquire 0 0 tt tt; inside = i; outer = record { is = refl; is_acquire = refl; outside = refl }; its_lock = refl }

  abbrev second_in : In 3 c → AcquireIn writes_locked c 0 3
  second_in i = record { event = event Acquire 1 0 tt tt; inside = i; outer = record { is = refl; is_acquire = refl; outside = refl }; its_lock = refl }

  abbrev wants_between : In 0 c → In 3 c → LockWants writes_locked c 2
  wants_between i j = record {
    lock = 0;
    first = 0;
    second = 3;
    first_in = first_in i;
    second_in = second_in j;
    order = lit< tt;
    release = ((release_found writes_locked 0 (event Acquire 0 0 tt tt) refl refl).0 2).0 refl;
  }

pub halves_of_sync : HalvesOfSync
halves_of_sync = (
  record { read = 2; inside = refl; last_write = ((last_write_found read_between 2).0 1).0 refl },
  λ h. false≢true (sync_decided.passes read_between (one 3) 1 (of_read read_between (one 3) 1 h)),
  wants_between (two 0 3) refl refl,
  λ h. false≢true (sync_decided.passes writes_locked (one 0) 2 (of_lock writes_locked (one 0) 2 h)),
)

-- no end is behind the trace
ends_within : (l : ℕ) → get_or (set (replicate locks 0) 0 4) l 0 ≤ 6
ends_within l = ⊎_elim (λ q. let own : get_or {A = ℕ} (set (replicate locks 0) 0 4) 0 0 ≡ 4 = refl in omega (arith, own, ap {B = ℕ} (λ m. get_or (set (replicate locks 0) 0 4) m 0) q))
    (λ n. omega (arith, get_or-set_other {A = ℕ} (replicate locks 0) 0 l 4 0 n, zeros l)) (cases_eq l 0)

pub search_enough : SearchEnough
search_enough = (
  record {
    whole = refl;
    within = ends_within;
    enough = λ ok settled. absurd (false≢true
        (settled 0 0 3 2 (first_in cut refl) (second_in cut refl) (lit< tt) (lit< tt) (wants_between cut refl refl).release));
  },
  λ h. false≢true (h.enough locked_admitted (λ l a b w one two order low rel. absurd (omega (arith, zeros l))) 2 (wants_between cut refl refl)),
)
  where
    cut : Positions
    cut = held writes_locked (bounds 1 4)
