-- What a session answers about two positions, and about all racing pairs.
use Rattle.std.specs.Prelude.{ℕ, true, false, List, [], ◌∷◌, Ok, Err, replicate}
use Rattle.answer.specs.declared.collector.BufferFault.TheVariants.{Full}
use Rattle.answer.specs.declared.fault.PairFault.TheVariants.{Order}
use Rattle.answer.specs.declared.verdict.PartnersFault.TheVariants.{NoEvent, Buffer as BufferOf}
use Rattle.answer.specs.declared.verdict.RacePair.{RacePair}
use Rattle.answer.specs.declared.verdict.Verdict.TheVariants.{Race, NoRace}
use Rattle.answer.specs.declared.verdict.WitnessFault.TheVariants.{NoRace as NothingShown, Buffer}
use Rattle.session.specs.Questions.{Answers, Unordered}
use Rattle.session.specs.Races.{Races, Judged, Witness, Shows, Witnessed, RacingPair, PartnersOf, Partnered, pair, InOrder, SweepOf, Swept}
use Rattle.cases.specs.Examples.{sections_between, writes_locked, read_between, through_section, three_accesses}
use Rattle.cases.specs.Cases.{Judges, FindsUnordered, FindsSchedulable, Vets}

-- wrong: the other verdict, on a race and on none
abbrev pub OtherVerdict : Type 0
OtherVerdict = (Judges sections_between 0 5 NoRace → ⊥) × (Judges writes_locked 1 4 Race → ⊥)

-- wrong: the other answer of Unordered, of Schedulable and of Vet
abbrev pub OtherAnswer : Type 0
OtherAnswer =
    (FindsUnordered read_between 0 3 false → ⊥) × (FindsUnordered sections_between 0 5 true → ⊥) × (FindsSchedulable read_between 0 3 true → ⊥)
    × (Vets sections_between 0 5 (3 ∷ 4 ∷ []) false → ⊥) × (Vets sections_between 0 5 [] true → ⊥)

-- of a position past the trace every question is refused with 8; wrong: 9, and a verdict
abbrev pub OtherRefusal : Type 0
OtherRefusal =
    (Judged three_accesses 0 3 (Races three_accesses 0 3) (Err Order) → ⊥) × (Judges three_accesses 0 3 NoRace → ⊥)
    × (Answers three_accesses 0 3 (Unordered three_accesses 0 3) (Err Order) → ⊥) × (FindsUnordered three_accesses 0 3 true → ⊥)

-- Schedulable says yes where the write of another thread is not before the read; wrong: no
abbrev pub SchedulablePair : Type 0
SchedulablePair = FindsSchedulable through_section 1 4 true × (FindsSchedulable through_section 1 4 false → ⊥)

-- wrong: a witness with an event that nothing brings in
abbrev pub WitnessClosed : Type 0
WitnessClosed = Witness three_accesses 0 1 [] × (Witness three_accesses 0 1 (2 ∷ []) → ⊥)

-- no event is needed before two accesses that come first; wrong: a list that leaves both enabled and is longer
abbrev pub LeastShown : Type 0
LeastShown = Shows three_accesses 0 1 [] × (Shows three_accesses 0 1 (2 ∷ []) → ⊥)

-- the section of the second thread is shown; wrong: all events before the later position, one of the section alone, and the section backwards
abbrev pub SectionShown : Type 0
SectionShown =
    Shows sections_between 0 5 (3 ∷ 4 ∷ []) × (Shows sections_between 0 5 (0 ∷ 1 ∷ 2 ∷ 3 ∷ 4 ∷ []) → ⊥)
    × (Shows sections_between 0 5 (3 ∷ []) → ⊥) × (Shows sections_between 0 5 (4 ∷ 3 ∷ []) → ⊥)

-- Witness writes the section and leaves the place behind; wrong: all events before the later position, the earlier position itself, an invented
-- count, 12 while the section fits, and 11 of a race
abbrev pub WitnessWritten : Type 0
WitnessWritten =
    let answered = Witnessed sections_between 0 5 (Shows sections_between 0 5) in
    answered (9 ∷ 9 ∷ 9 ∷ []) (Ok 2) (3 ∷ 4 ∷ 9 ∷ []) × (answered (9 ∷ 9 ∷ 9 ∷ 9 ∷ 9 ∷ []) (Ok 5) (0 ∷ 1 ∷ 2 ∷ 3 ∷ 4 ∷ []) → ⊥)
    × (answered (9 ∷ 9 ∷ 9 ∷ []) (Ok 2) (0 ∷ 4 ∷ 9 ∷ []) → ⊥)
    × ((after : List ℕ) → answered (9 ∷ 9 ∷ 9 ∷ []) (Ok 3) after → ⊥) × ((after : List ℕ) → answered (9 ∷ 9 ∷ []) (Err (Buffer Full)) after → ⊥)
    × ((after : List ℕ) → answered (9 ∷ 9 ∷ []) (Err NothingShown) after → ⊥)

-- wrong: a racing pair the other way round, and one under a lock
abbrev pub PairsThatRace : Type 0
PairsThatRace = RacingPair three_accesses 0 2 × (RacingPair three_accesses 2 0 → ⊥) × (RacingPair writes_locked 1 4 → ⊥)

-- the last access races with both before it; wrong: the latest of them alone, one more, and both backwards
abbrev pub BothPartners : Type 0
BothPartners =
    PartnersOf three_accesses 2 (0 ∷ 1 ∷ []) × (PartnersOf three_accesses 2 (1 ∷ []) → ⊥)
    × (PartnersOf three_accesses 2 (0 ∷ 1 ∷ 2 ∷ []) → ⊥) × (PartnersOf three_accesses 2 (1 ∷ 0 ∷ []) → ⊥)

-- wrong: an acquire with a partner
abbrev pub AcquireAlone : Type 0
AcquireAlone = PartnersOf sections_between 3 [] × ((p : ℕ) (ps : List ℕ) → PartnersOf sections_between 3 (p ∷ ps) → ⊥)

-- Partners writes both and leaves the place behind; wrong: 12 while they fit, an invented count, the latest alone, an entry written behind them,
-- and the buffer as it was
abbrev pub PartnersWritten : Type 0
PartnersWritten =
    let answered = Partnered three_accesses 2 in
    answered (9 ∷ 9 ∷ 9 ∷ []) (Ok 2) (0 ∷ 1 ∷ 9 ∷ []) × ((after : List ℕ) → answered (9 ∷ 9 ∷ []) (Err (BufferOf Full)) after → ⊥)
    × ((after : List ℕ) → answered (9 ∷ 9 ∷ 9 ∷ []) (Ok 3) after → ⊥) × ((after : List ℕ) → answered (9 ∷ 9 ∷ 9 ∷ []) (Ok 1) after → ⊥)
    × (answered (9 ∷ 9 ∷ 9 ∷ []) (Ok 2) (0 ∷ 1 ∷ 2 ∷ []) → ⊥) × (answered (9 ∷ 9 ∷ 9 ∷ []) (Ok 2) (9 ∷ 9 ∷ 9 ∷ []) → ⊥)

-- past the trace Partners is refused with 8; wrong: that there are none, and 8 of a position of the trace
abbrev pub PartnersRefused : Type 0
PartnersRefused =
    Partnered three_accesses 3 (9 ∷ []) (Err NoEvent) (9 ∷ []) × (Partnered three_accesses 3 (9 ∷ []) (Ok 0) (9 ∷ []) → ⊥)
    × ((after : List ℕ) → Partnered three_accesses 2 (9 ∷ []) (Err NoEvent) after → ⊥)

-- pairs stand by their later positions, then by their earlier ones; wrong: the earlier positions backwards
abbrev pub PairsInOrder : Type 0
PairsInOrder = InOrder (pair 1 2 ∷ pair 0 3 ∷ []) × (InOrder (pair 1 2 ∷ pair 0 2 ∷ []) → ⊥)

-- wrong: a sweep that has of each access only the latest partner
abbrev pub SweepWhole : Type 0
SweepWhole = SweepOf three_accesses (pair 0 1 ∷ pair 1 2 ∷ []) → ⊥

-- wrong: Sweep is refused with 12 while the pairs fit, it counts one more, and one fewer
abbrev pub SweepFits : Type 0
SweepFits =
    ((after : List RacePair) → Swept three_accesses (replicate 3 (pair 9 9)) (Err Full) after → ⊥)
    × ((after : List RacePair) → Swept three_accesses (replicate 4 (pair 9 9)) (Ok 4) after → ⊥)
    × ((after : List RacePair) → Swept three_accesses (replicate 4 (pair 9 9)) (Ok 2) after → ⊥)
