-- What a session answers on small traces and at its limits, each by the definitions that the contracts of its calls cite. Where a call fills a
-- buffer, also what the whole buffer then holds.
use Rattle.std.specs.Prelude.{◌≡◌, ℕ, ◌-◌, ◌/◌, ◌%◌, ◌<◌, ◌≤◌, Bool, true, false, List, [], ◌∷◌, ◌++◌, length, drop, Ok, Err}
use Rattle.trace.specs.declared.event.Event.{Event}
use Rattle.trace.specs.declared.kind.Kind.{Kind}
use Rattle.trace.specs.declared.kind.Kind.TheVariants.{Read, Write, Acquire, Release, Spawn, Join}
use Rattle.trace.specs.Limits.{locks, threads}
use Rattle.trace.specs.Records.{number, record_of}
use Rattle.trace.specs.Traces.{Admits, Allowed, depth, standing_after}
use Rattle.reel.specs.Boards.{board_room}
use Rattle.answer.specs.declared.fault.Layer.{Layer}
use Rattle.answer.specs.declared.fault.Layer.TheVariants.{Record, Trace, Reel}
use Rattle.answer.specs.declared.fault.PairFault.{PairFault}
use Rattle.answer.specs.declared.verdict.Verdict.{Verdict}
use Rattle.answer.specs.declared.verdict.Verdict.TheVariants.{Race, NoRace}
use Rattle.answer.specs.declared.verdict.RacePair.{RacePair}
use Rattle.answer.specs.declared.verdict.WitnessFault.{WitnessFault}
use Rattle.answer.specs.declared.collector.BufferFault.{BufferFault}
use Rattle.answer.specs.Faults.{pair_number}
use Rattle.answer.specs.Buffers.{buffer_number}
use Rattle.answer.specs.Verdicts.{witness_number}
use Rattle.session.specs.Entries.{Outcome, enter, load}
use Rattle.session.specs.Questions.{Answers, Unordered, Schedulable, Vetted}
use Rattle.session.specs.Races.{Races, Judged, Witness, Witnessed, pair, SweepOf, Swept}
use Rattle.cases.specs.Examples.{event, sections_between, writes_locked, read_between, through_section, three_accesses, one_locked, inner_section, worker_awaited}

-- Judge answers with a verdict
abbrev pub Judges : List Event → ℕ → ℕ → Verdict → Type 0
Judges t p q v = Judged t p q (Races t p q) (Ok v)

-- Unordered answers yes or no
abbrev pub FindsUnordered : List Event → ℕ → ℕ → Bool → Type 0
FindsUnordered t p q b = Answers t p q (Unordered t p q) (Ok b)

-- Schedulable answers yes or no
abbrev pub FindsSchedulable : List Event → ℕ → ℕ → Bool → Type 0
FindsSchedulable t p q b = Answers t p q (Schedulable t p q) (Ok b)

-- Vet answers yes or no to a list of positions
abbrev pub Vets : List Event → ℕ → ℕ → List ℕ → Bool → Type 0
Vets t p q list b = Answers t p q (Vetted t p q list) (Ok b)

-- Judge refuses with a number
abbrev pub JudgeRefuses : List Event → ℕ → ℕ → ℕ → Type 0
JudgeRefuses t p q n = (f : PairFault) × Judged t p q (Races t p q) (Err f) × (pair_number f ≡ n)

-- Witness writes a list of positions to the start of every buffer that has places for it, and answers its length
abbrev pub Writes : List Event → ℕ → ℕ → List ℕ → Type 0
Writes t p q ws =
    (buffer : List ℕ) → length ws ≤ length buffer → Witnessed t p q (Witness t p q) buffer (Ok (length ws)) (ws ++ drop (length ws) buffer)

-- Witness refuses with a number, and every buffer stays
abbrev pub WitnessRefuses : List Event → ℕ → ℕ → ℕ → Type 0
WitnessRefuses t p q n =
    (f : WitnessFault) × ((buffer : List ℕ) → Witnessed t p q (Witness t p q) buffer (Err f) buffer) × (witness_number f ≡ n)

-- Judge says race, and this is the witness, which Witness writes
abbrev pub RacesBy : List Event → ℕ → ℕ → List ℕ → Type 0
RacesBy t p q ws = Judges t p q Race × Witness t p q ws × Writes t p q ws

-- a call takes no record: it is refused with a number by a layer at an index, and the events stay
abbrev pub refused : {A : Type 0} → List Event → ℕ → Layer → ℕ → Outcome A
refused t n layer i = record { answer = Err (record { number = n; layer = layer; index = i }); events = t }

-- Enter takes the event
abbrev pub taken : List Event → Event → Outcome (Unit {0})
taken t e = record { answer = Ok tt; events = t ++ (e ∷ []) }

-- the trace check admits the eight traces
abbrev pub AllAdmitted : Type 0
AllAdmitted =
    Admits sections_between × Admits writes_locked × Admits read_between × Admits through_section × Admits three_accesses × Admits one_locked
    × Admits inner_section × Admits worker_awaited

-- the sections between the two writes do not keep them from racing, and the witness is the section of the second thread
abbrev pub SectionsRace : Type 0
SectionsRace = RacesBy sections_between 0 5 (3 ∷ 4 ∷ [])

-- though the first write comes before the second in happens-before and in schedulable happens-before
abbrev pub SectionsOrdered : Type 0
SectionsOrdered = FindsUnordered sections_between 0 5 false × FindsSchedulable sections_between 0 5 false

-- two writes under one lock do not race, so a witness is refused with 11, and the buffer stays
abbrev pub LockedNoRace : Type 0
LockedNoRace = Judges writes_locked 1 4 NoRace × WitnessRefuses writes_locked 1 4 11

-- the read keeps the writes around it from racing; happens-before does not see that, and schedulable happens-before does
abbrev pub ReadNoRace : Type 0
ReadNoRace = Judges read_between 0 3 NoRace × FindsUnordered read_between 0 3 true × FindsSchedulable read_between 0 3 false

-- the write and the read themselves race
abbrev pub ReadRaces : Type 0
ReadRaces = RacesBy read_between 1 2 (0 ∷ [])

-- reads and a lock together keep the first and the last write from racing, which happens-before does not see
abbrev pub ChainNoRace : Type 0
ChainNoRace = Judges through_section 0 8 NoRace × FindsUnordered through_section 0 8 true

-- the racing pairs of the three accesses
abbrev pub three_pairs : List RacePair
three_pairs = pair 0 1 ∷ pair 0 2 ∷ pair 1 2 ∷ []

-- the sweep has all three. Sweep writes them to the start of a buffer that has places for them; one of two places is refused with 12 and holds
-- the first two
abbrev pub ThreeSwept : Type 0
ThreeSwept =
    SweepOf three_accesses three_pairs
    × ((buffer : List RacePair) → 3 ≤ length buffer → Swept three_accesses buffer (Ok 3) (three_pairs ++ drop 3 buffer))
    × ((f : BufferFault)
    × ((buffer : List RacePair) → length buffer ≡ 2 → Swept three_accesses buffer (Err f) (pair 0 1 ∷ pair 0 2 ∷ []))
    × (buffer_number f ≡ 12))

-- the write at 1 races with that at 2, and the witness is the acquire before it
abbrev pub OpenRaces : List Event → Type 0
OpenRaces t = RacesBy t 1 2 (0 ∷ [])

-- a write under a lock races with one without, before and after the release of the lock is entered
abbrev pub OneLockedRaces : Type 0
OneLockedRaces =
    let e = event Release 0 0 tt tt in
    OpenRaces one_locked × ((room : ℕ) → 3 < room → enter room one_locked (record_of e) ≡ taken one_locked e) × OpenRaces (one_locked ++ (e ∷ []))

-- the inner release leaves the first thread in the lock, so its write does not race with the one in the other section; and the inner acquire wants
-- nothing, so it races with the write before that
abbrev pub InnerSection : Type 0
InnerSection = Judges inner_section 3 7 NoRace × RacesBy inner_section 3 5 (0 ∷ 1 ∷ 2 ∷ [])

-- the worker's write does not race with the parent's before the spawn, nor with the one after the join, and it races with the one between
abbrev pub WorkerAwaited : Type 0
WorkerAwaited = Judges worker_awaited 0 2 NoRace × RacesBy worker_awaited 2 3 (0 ∷ 1 ∷ []) × Judges worker_awaited 2 5 NoRace

-- Vet says yes to the witness, and no to its events in the other order and to less than all of it
abbrev pub WitnessVetted : Type 0
WitnessVetted =
    Vets sections_between 0 5 (3 ∷ 4 ∷ []) true × Vets sections_between 0 5 (4 ∷ 3 ∷ []) false
    × Vets sections_between 0 5 (3 ∷ []) false × Vets sections_between 0 5 [] false

-- the bytes of a record of a kind, by thread 0, on a subject that may be past its limit
abbrev pub bytes_of : Kind → ℕ → List ℕ
bytes_of kind subject = number kind ∷ 0 ∷ (subject % 256) ∷ (subject / 256) ∷ 0 ∷ 0 ∷ 0 ∷ 0 ∷ []

-- 0a0 is entered; then the record of 1z0 is refused with 6, that of 1a0 with 5, and that of 0a0 is taken
abbrev pub LocksByHolder : Type 0
LocksByHolder =
    let e = event Acquire 0 0 tt tt in
    let t = e ∷ [] in
    (room : ℕ)
    → (0 < room → enter room [] (record_of e) ≡ taken [] e) × (enter room t (record_of (event Release 1 0 tt tt)) ≡ refused t 6 Trace 0)
    × (enter room t (record_of (event Acquire 1 0 tt tt)) ≡ refused t 5 Trace 0) × (1 < room → enter room t (record_of e) ≡ taken t e)

-- where thread 0, which was not joined, is 254 deep in lock 0 its acquire is taken, and where it is 255 deep it is refused with 13
abbrev pub LocksDeep : Type 0
LocksDeep =
    let e = event Acquire 0 0 tt tt in
    (room : ℕ) (t : List Event) → Admits t → let life = (standing_after t).lives 0 in life.joined ≡ false
    → (length t < room → depth 0 0 t ≡ 254 → enter room t (record_of e) ≡ taken t e) × (depth 0 0 t ≡ 255 → enter room t (record_of e) ≡ refused t 13 Trace 0)

-- 0s1 is entered; then the records of 0s1 and of 1j1 are refused with 14, and once 0j1 is entered too, those of 1w0 and of 1s1 with 15
abbrev pub ThreadsByLife : Type 0
ThreadsByLife =
    let e = event Spawn 0 1 tt tt in
    let t = e ∷ [] in
    let f = event Join 0 1 tt tt in
    let u = e ∷ f ∷ [] in
    (room : ℕ)
    → (0 < room → enter room [] (record_of e) ≡ taken [] e) × (enter room t (record_of e) ≡ refused t 14 Trace 0)
    × (enter room t (record_of (event Join 1 1 tt tt)) ≡ refused t 14 Trace 0) × (1 < room → enter room t (record_of f) ≡ taken t f)
    × (enter room u (record_of (event Write 1 0 tt tt)) ≡ refused u 15 Trace 0) × (enter room u (record_of (event Spawn 1 1 tt tt)) ≡ refused u 15 Trace 0)

-- of three events, Judge of a pair with position 3 is refused with 8, and one of position 2 twice with 9
abbrev pub PairsRefused : Type 0
PairsRefused = JudgeRefuses three_accesses 0 3 8 × JudgeRefuses three_accesses 2 2 9

-- the records of variable 1,023, of the last lock, 199, and of the last thread, 15, are taken
abbrev pub LastSubjects : Type 0
LastSubjects =
    (room : ℕ) → 0 < room
    → (enter room [] (bytes_of Read 1023) ≡ taken [] (event Read 0 1023 tt tt)) × (enter room [] (bytes_of Write 1023) ≡ taken [] (event Write 0 1023 tt tt))
    × (enter room [] (bytes_of Acquire (locks - 1)) ≡ taken [] (event Acquire 0 (locks - 1) tt tt))
    × (enter room [] (bytes_of Spawn (threads - 1)) ≡ taken [] (event Spawn 0 (threads - 1) tt tt))

-- those of variable 1,024, lock 200 and thread 16 are refused with 4
abbrev pub SubjectsRefused : Type 0
SubjectsRefused =
    (room : ℕ) (t : List Event)
    → (enter room t (bytes_of Read 1024) ≡ refused t 4 Record 0) × (enter room t (bytes_of Write 1024) ≡ refused t 4 Record 0)
    × (enter room t (bytes_of Acquire locks) ≡ refused t 4 Record 0) × (enter room t (bytes_of Release locks) ≡ refused t 4 Record 0)
    × (enter room t (bytes_of Spawn threads) ≡ refused t 4 Record 0) × (enter room t (bytes_of Join threads) ≡ refused t 4 Record 0)

-- a dump of no bytes has no records, and one of 17 bytes is refused with 1, at the index after its two whole records
abbrev pub DumpLengths : Type 0
DumpLengths =
    (room : ℕ) (t : List Event)
    → (load room t [] ≡ record { answer = Ok 0; events = t }) × ((dump : List ℕ) → length dump ≡ 17 → load room t dump ≡ refused t 1 Record 2)

-- over a board reel, an event that the trace check allows is taken as the 1,024th, and one that it allows then is refused with 7; and so is one
-- that it allows behind any 1,024 events
abbrev pub LastRoom : Type 0
LastRoom =
    ((t : List Event) (e f : Event) → length t ≡ 1023 → Allowed (standing_after t) e → let u = t ++ (e ∷ []) in Allowed (standing_after u) f
    → (enter board_room t (record_of e) ≡ taken t e) × (enter board_room u (record_of f) ≡ refused u 7 Reel 0))
    × ((t : List Event) (e : Event) → Allowed (standing_after t) e
    → (length t ≡ 1023 → enter board_room t (record_of e) ≡ taken t e) × (length t ≡ 1024 → enter board_room t (record_of e) ≡ refused t 7 Reel 0))
