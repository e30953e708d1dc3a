-- What a session with the trace t answers about races: Judge, Witness, Partners and Sweep.
use Rattle.std.specs.Prelude.{◌≡◌, ℕ, ◌<◌, ◌≤◌, ◌⊎◌, ◌↔◌, List, [], ◌∷◌, length, Some, None, Ok, Err, Option, Result}
use mathlib.Core.List.{Memᴰ}
use Rattle.trace.specs.declared.event.Event.{Event}
use Rattle.trace.specs.Lookups.{previous_events}
use Rattle.trace.specs.Reorderings.{Ascending, Leaves}
use Rattle.predict.specs.declared.cut.Cut.{Cut}
use Rattle.predict.specs.Held.{held}
use Rattle.trace.specs.Cuts.{Positions, In, Closure, SyncWants, listed}
use Rattle.answer.specs.declared.fault.PairFault.{PairFault}
use Rattle.answer.specs.declared.verdict.RacePair.{RacePair}
use Rattle.answer.specs.declared.verdict.Verdict.{Verdict}
use Rattle.answer.specs.declared.verdict.Verdict.TheVariants.{Race, NoRace}
use Rattle.answer.specs.declared.verdict.WitnessFault.{WitnessFault}
use Rattle.answer.specs.declared.verdict.WitnessFault.TheVariants.{Pair, Buffer}
use Rattle.answer.specs.declared.verdict.PartnersFault.{PartnersFault}
use Rattle.answer.specs.declared.verdict.PartnersFault.TheVariants.{Buffer as BufferOf}
use Rattle.answer.specs.declared.collector.BufferFault.{BufferFault}
use Rattle.answer.specs.Faults.{pair_number}
use Rattle.answer.specs.Buffers.{Filled}
use Rattle.answer.specs.Verdicts.{witness_number, partners_number}
use Rattle.session.specs.Questions.{pair_refusal, Outside}

-- p and q race, for positions that can be asked about: some sync-preserving correct reordering leaves both enabled
abbrev pub Races : List Event → ℕ → ℕ → Type 0
Races t p q = (σ : List ℕ) × Leaves t (p ∷ q ∷ []) σ

-- the same by closures: p is outside the sync closure of the previous events of p and q
abbrev pub OutsideSync : List Event → ℕ → ℕ → Type 0
OutsideSync t p q = Outside SyncWants t (previous_events t (p ∷ q ∷ [])) p

-- what is found where a pair is asked about that can be: the sync closure of the previous events, if p is outside; else p is inside
abbrev pub FoundRace : List Event → ℕ → ℕ → Option Cut → Type 0
FoundRace t p q None = (c : Positions) × Closure SyncWants t (previous_events t (p ∷ q ∷ [])) c × In p c
FoundRace t p q (Some cut) = Closure SyncWants t (previous_events t (p ∷ q ∷ [])) (held t cut.bounds) × (In p (held t cut.bounds) → ⊥)

-- Judge: refused with the number of the first check that fails, else race exactly when something holds
pub data Judged (t : List Event) (p q : ℕ) (holds : Type 0) : Result Verdict PairFault → Type 0 where
  refused : {f : PairFault} → pair_refusal t p q ≡ Some (pair_number f) → Judged t p q holds (Err f)
  race : pair_refusal t p q ≡ None → holds → Judged t p q holds (Ok Race)
  no_race : pair_refusal t p q ≡ None → (holds → ⊥) → Judged t p q holds (Ok NoRace)

-- the witness of p and q: the events of the sync closure of their previous events, in trace order
abbrev pub Witness : List Event → ℕ → ℕ → List ℕ → Type 0
Witness t p q ws = (c : Positions) × Closure SyncWants t (previous_events t (p ∷ q ∷ [])) c × (ws ≡ listed c (length t))

-- an answer of a buffer, as one of Witness
abbrev pub as_witness : Result ℕ BufferFault → Result ℕ WitnessFault
as_witness (Ok n) = Ok n
as_witness (Err f) = Err (Buffer f)

-- the same in the words of reorderings: it leaves both enabled and stands in trace order, and every other one that does has all its events, and
-- so at least as many
pub record Shows (t : List Event) (p q : ℕ) (ws : List ℕ) : Type 0 where
  pub leaves : Leaves t (p ∷ q ∷ []) ws
  pub in_order : Ascending ws
  pub least : (σ : List ℕ) → Leaves t (p ∷ q ∷ []) σ → ((k : ℕ) → Memᴰ k ws → Memᴰ k σ) × (length ws ≤ length σ)

-- Witness: refused with the number of the first check that fails, with 11 where the pair is no race, and the buffer stays; else a list that is a
-- witness, in one or the other words, is written into the buffer
pub data Witnessed (t : List Event) (p q : ℕ) (shows : List ℕ → Type 0) (before : List ℕ) : Result ℕ WitnessFault → List ℕ → Type 0 where
  refused : {f : PairFault} → pair_refusal t p q ≡ Some (pair_number f) → Witnessed t p q shows before (Err (Pair f)) before
  no_race : {f : WitnessFault} → witness_number f ≡ 11 → pair_refusal t p q ≡ None → (Races t p q → ⊥) → Witnessed t p q shows before (Err f) before
  written : {ws after : List ℕ} {r : Result ℕ BufferFault} → pair_refusal t p q ≡ None → Races t p q → shows ws → Filled ws before r after
      → Witnessed t p q shows before (as_witness r) after

-- p and q are a racing pair: they can be asked about, and they race
abbrev pub RacingPair : List Event → ℕ → ℕ → Type 0
RacingPair t p q = (pair_refusal t p q ≡ None) × Races t p q

-- the partners of q: every p below q that races with q, ascending
pub record PartnersOf (t : List Event) (q : ℕ) (ps : List ℕ) : Type 0 where
  pub ascending : Ascending ps
  pub exact : (p : ℕ) → Memᴰ p ps ↔ RacingPair t p q

-- an answer of a buffer, as one of Partners
abbrev pub as_partners : Result ℕ BufferFault → Result ℕ PartnersFault
as_partners (Ok n) = Ok n
as_partners (Err f) = Err (BufferOf f)

-- Partners: refused with 8 where q is not below the count, and the buffer stays; else the partners of q are written into the buffer
pub data Partnered (t : List Event) (q : ℕ) (before : List ℕ) : Result ℕ PartnersFault → List ℕ → Type 0 where
  refused : {f : PartnersFault} → partners_number f ≡ 8 → length t ≤ q → Partnered t q before (Err f) before
  written : {ps after : List ℕ} {r : Result ℕ BufferFault} → q < length t → PartnersOf t q ps → Filled ps before r after
      → Partnered t q before (as_partners r) after

-- the pair of p and q
abbrev pub pair : ℕ → ℕ → RacePair
pair p q = record { first = p; second = q }

-- one pair stands before another: its later position is less, or that is the same and its earlier position is less
abbrev pub StandsBefore : RacePair → RacePair → Type 0
StandsBefore x y = (x.second < y.second) ⊎ ((x.second ≡ y.second) × (x.first < y.first))

-- each pair stands before all behind it
abbrev pub InOrder : List RacePair → Type 0
InOrder [] = Unit {0}
InOrder (x ∷ xs) = ((y : RacePair) → Memᴰ y xs → StandsBefore x y) × InOrder xs

-- the sweep: every racing pair, in order
pub record SweepOf (t : List Event) (xs : List RacePair) : Type 0 where
  pub in_order : InOrder xs
  pub exact : (p q : ℕ) → Memᴰ (pair p q) xs ↔ RacingPair t p q

-- Sweep: the racing pairs are written into the buffer
pub record Swept (t : List Event) (before : List RacePair) (r : Result ℕ BufferFault) (after : List RacePair) : Type 0 where
  pub pairs : List RacePair
  pub all : SweepOf t pairs
  pub written : Filled pairs before r after
