-- The answers on the eight traces.
use Rattle.std.proofs.Common.{◌≡◌, ℕ, ◌<◌, true, false, [], ◌∷◌, ◌++◌, refl}
use Rattle.std.proofs.lemmas.Bool.{lt-ltb}
use Rattle.trace.specs.declared.kind.Kind.TheVariants.{Release}
use Rattle.trace.specs.Records.{record_of}
use Rattle.trace.specs.Traces.{Admits}
use Rattle.trace.proofs.Records.{record_means}
use Rattle.session.specs.Entries.{enter}
use Rattle.cases.specs.Examples.{event, sections_between, writes_locked, read_between, through_section, one_locked, inner_section, worker_awaited}
use Rattle.cases.specs.Cases.{taken, AllAdmitted, SectionsRace, SectionsOrdered, LockedNoRace, ReadNoRace, ReadRaces, ChainNoRace, OneLockedRaces, InnerSection, WorkerAwaited}
use Rattle.cases.proofs.Asking.{judges_none, refuses_witness, unordered_or_not, schedulable_or_not, races_as}
use Rattle.cases.proofs.Sweeping.{three_admitted}

-- the trace check admits these traces
pub sections_admitted : Admits sections_between
sections_admitted = (refl, (refl, (refl, (refl, (refl, (refl, tt))))))

pub locked_admitted : Admits writes_locked
locked_admitted = (refl, (refl, (refl, (refl, (refl, (refl, tt))))))

pub read_admitted : Admits read_between
read_admitted = (refl, (refl, (refl, (refl, tt))))

pub chain_admitted : Admits through_section
chain_admitted = (refl, (refl, (refl, (refl, (refl, (refl, (refl, (refl, (refl, tt)))))))))

pub sections_race : SectionsRace
sections_race = races_as sections_between 0 5 sections_admitted refl (4 ∷ []) refl refl

pub sections_ordered : SectionsOrdered
sections_ordered = (
  unordered_or_not sections_between 0 5 sections_admitted refl (2 ∷ 5 ∷ []) refl false refl,
  schedulable_or_not sections_between 0 5 sections_admitted refl 4 refl (2 ∷ 4 ∷ []) refl false refl,
)

pub locked_no_race : LockedNoRace
locked_no_race = (
  judges_none writes_locked 1 4 locked_admitted refl (2 ∷ 3 ∷ 0 ∷ []) refl refl,
  refuses_witness writes_locked 1 4 locked_admitted refl (2 ∷ 3 ∷ 0 ∷ []) refl refl,
)

pub read_no_race : ReadNoRace
read_no_race = (
  judges_none read_between 0 3 read_admitted refl (1 ∷ 2 ∷ []) refl refl,
  unordered_or_not read_between 0 3 read_admitted refl (3 ∷ []) refl true refl,
  schedulable_or_not read_between 0 3 read_admitted refl 2 refl (1 ∷ 2 ∷ []) refl false refl,
)

pub read_races : ReadRaces
read_races = races_as read_between 1 2 read_admitted refl (0 ∷ []) refl refl

pub chain_no_race : ChainNoRace
chain_no_race = (
  judges_none through_section 0 8 chain_admitted refl (1 ∷ 5 ∷ 3 ∷ 7 ∷ []) refl refl,
  unordered_or_not through_section 0 8 chain_admitted refl (5 ∷ 8 ∷ []) refl true refl,
)

pub open_admitted : Admits one_locked
open_admitted = (refl, (refl, (refl, tt)))

pub inner_admitted : Admits inner_section
inner_admitted = (refl, (refl, (refl, (refl, (refl, (refl, (refl, (refl, tt))))))))

pub inner_races : InnerSection
inner_races = (
  judges_none inner_section 3 7 inner_admitted refl (4 ∷ 6 ∷ 2 ∷ []) refl refl,
  races_as inner_section 3 5 inner_admitted refl (2 ∷ []) refl refl,
)

pub worker_admitted : Admits worker_awaited
worker_admitted = (refl, (refl, (refl, (refl, (refl, (refl, tt))))))

pub worker_races : WorkerAwaited
worker_races = (
  judges_none worker_awaited 0 2 worker_admitted refl (1 ∷ []) refl refl,
  races_as worker_awaited 2 3 worker_admitted refl (1 ∷ []) refl refl,
  judges_none worker_awaited 2 5 worker_admitted refl (2 ∷ 4 ∷ 1 ∷ []) refl refl,
)

pub all_admitted : AllAdmitted
all_admitted = (sections_admitted, locked_admitted, read_admitted, chain_admitted, three_admitted, open_admitted, inner_admitted, worker_admitted)

-- the release of the lock that is held
release_entered : (room : ℕ) → 3 < room → enter room one_locked (record_of (event Release 0 0 tt tt)) ≡ taken one_locked (event Release 0 0 tt tt)
release_entered room enough = let h = lt-ltb 3 room enough in rw (record_means (event Release 0 0 tt tt), h) refl

pub one_locked_races : OneLockedRaces
one_locked_races =
    let longer = one_locked ++ (event Release 0 0 tt tt ∷ []) in
    let longer_admitted : Admits longer = (refl, (refl, (refl, (refl, tt)))) in (
      races_as one_locked 1 2 open_admitted refl (0 ∷ []) refl refl,
      release_entered,
      races_as longer 1 2 longer_admitted refl (0 ∷ []) refl refl,
    )
