-- The promise over whole runs: how any list of calls is answered, told from the calls and the capacity alone.
use Rattle.std.specs.Prelude.{◌≡◌, ℕ, ◌<◌, List, [], length, take, Some, Ok, Err, Option, vec_items, fold, Result, Vec}
use mathlib.Core.List.{Memᴰ}
use Rattle.std.specs.List.{slice_get}
use Rattle.std.specs.declared.alloc.Global.{Global}
use Rattle.trace.specs.declared.event.Event.{Event}
use Rattle.trace.specs.Faults.{told}
use Rattle.answer.specs.declared.fault.EntryRefusal.{EntryRefusal}
use Rattle.answer.specs.declared.fault.PairFault.{PairFault}
use Rattle.answer.specs.declared.collector.BufferFault.{BufferFault}
use Rattle.answer.specs.declared.verdict.RacePair.{RacePair}
use Rattle.answer.specs.declared.verdict.Verdict.{Verdict}
use Rattle.answer.specs.declared.verdict.Verdict.TheVariants.{Race, NoRace}
use Rattle.answer.specs.declared.verdict.WitnessFault.{WitnessFault}
use Rattle.answer.specs.declared.verdict.PartnersFault.{PartnersFault}
use Rattle.run.specs.declared.Call.{Call}
use Rattle.run.specs.declared.Call.TheVariants.{Enter, Load, Judge, Witness, Partners, Sweep}
use Rattle.answer.specs.Faults.{refusal}
use Rattle.answer.specs.Verdicts.{witness_number}
use Rattle.session.specs.Entries.{enter, load}
use Rattle.session.specs.Races.{Races, Judged, Shows, Witnessed, Partnered, pair, Swept}

-- the trace after a call: Enter adds its event if no check turns it away, Load its events up to the first that one does, and none if its
-- length is wrong; the others add none
abbrev pub trace_after : ℕ → List Event → Call → List Event
trace_after room t (Enter bytes answer) = (enter room t (vec_items bytes)).events
trace_after room t (Load bytes answer) = (load room t (vec_items bytes)).events
trace_after room t (Judge p q answer) = t
trace_after room t (Witness p q buffer answer) = t
trace_after room t (Partners q buffer answer) = t
trace_after room t (Sweep buffer answer) = t

-- the trace so far after some calls, from an empty one
abbrev pub so_far : ℕ → List Call → List Event
so_far room calls = fold (trace_after room) [] calls

-- a call as it is given and as it comes back, answered, where t is the trace so far
pub data Served (room : ℕ) (t : List Event) : Call → Call → Type 0 where
  entered : {bytes : Vec ℕ Global} {a : Option (Result (Unit {0}) EntryRefusal)} {r : Result (Unit {0}) EntryRefusal}
      → told refusal r ≡ (enter room t (vec_items bytes)).answer → Served room t (Enter bytes a) (Enter bytes (Some r))
  loaded : {bytes : Vec ℕ Global} {a : Option (Result ℕ EntryRefusal)} {r : Result ℕ EntryRefusal}
      → told refusal r ≡ (load room t (vec_items bytes)).answer → Served room t (Load bytes a) (Load bytes (Some r))
  judged : {p q : ℕ} {a : Option (Result Verdict PairFault)} {r : Result Verdict PairFault} → Judged t p q (Races t p q) r
      → Served room t (Judge p q a) (Judge p q (Some r))
  witnessed : {p q : ℕ} {before after : Vec ℕ Global} {a : Option (Result ℕ WitnessFault)} {r : Result ℕ WitnessFault}
      → Witnessed t p q (Shows t p q) (vec_items before) r (vec_items after) → Served room t (Witness p q before a) (Witness p q after (Some r))
  partnered : {q : ℕ} {before after : Vec ℕ Global} {a : Option (Result ℕ PartnersFault)} {r : Result ℕ PartnersFault}
      → Partnered t q (vec_items before) r (vec_items after) → Served room t (Partners q before a) (Partners q after (Some r))
  swept : {before after : Vec RacePair Global} {a : Option (Result ℕ BufferFault)} {r : Result ℕ BufferFault} → Swept t (vec_items before) r (vec_items after)
      → Served room t (Sweep before a) (Sweep after (Some r))

-- an answered call says that the pair of p and q of the trace t is a race, or that it is none: Judge by its verdict; Witness by 11, by an answer or
-- by 12; Partners and Sweep, if they are not refused, by listing a pair or not
pub data Says (t : List Event) (p q : ℕ) : Call → Verdict → Type 0 where
  by_judge : {v : Verdict} → Says t p q (Judge p q (Some (Ok v))) v
  by_witness : {after : Vec ℕ Global} {n : ℕ} → Says t p q (Witness p q after (Some (Ok n))) Race
  by_long_witness : {after : Vec ℕ Global} {f : WitnessFault} → witness_number f ≡ 12 → Says t p q (Witness p q after (Some (Err f))) Race
  by_no_witness : {after : Vec ℕ Global} {f : WitnessFault} → witness_number f ≡ 11 → Says t p q (Witness p q after (Some (Err f))) NoRace
  by_partner : {after : Vec ℕ Global} {n : ℕ} → Memᴰ p (take n (vec_items after)) → Says t p q (Partners q after (Some (Ok n))) Race
  by_no_partner : {after : Vec ℕ Global} {n : ℕ} → p < q → (Memᴰ p (take n (vec_items after)) → ⊥) → Says t p q (Partners q after (Some (Ok n))) NoRace
  by_sweep : {after : Vec RacePair Global} {n : ℕ} → Memᴰ (pair p q) (take n (vec_items after)) → Says t p q (Sweep after (Some (Ok n))) Race
  by_no_sweep : {after : Vec RacePair Global} {n : ℕ} → p < q → q < length t → (Memᴰ (pair p q) (take n (vec_items after)) → ⊥)
      → Says t p q (Sweep after (Some (Ok n))) NoRace

-- call i of a run, as it is given and as it comes back
pub record Turn (given back : List Call) (i : ℕ) : Type 0 where
  pub asked : Call
  pub answered : Call
  pub asked_is : slice_get given i ≡ Some asked
  pub answered_is : slice_get back i ≡ Some answered

-- a list of calls as it is given and as it comes back. Each call is still in its place; each is answered as the trace so far asks for; a pair that one
-- call says is a race no other says is none; and all answered witnesses of a pair are the same list
pub record Upholds (room : ℕ) (given back : List Call) : Type 0 where
  pub many : length back ≡ length given
  pub each : (i : ℕ) (x : Turn given back i) → Served room (so_far room (take i given)) x.asked x.answered
  pub lasting : (i j p q : ℕ) (v w : Verdict) (x : Turn given back i) (y : Turn given back j)
      → Says (so_far room (take i given)) p q x.answered v → Says (so_far room (take j given)) p q y.answered w → v ≡ w
  pub same_witness : (i j p q m n : ℕ) (after later : Vec ℕ Global) (x : Turn given back i) (y : Turn given back j)
      → x.answered ≡ Witness p q after (Some (Ok m)) → y.answered ≡ Witness p q later (Some (Ok n))
      → take m (vec_items after) ≡ take n (vec_items later)
