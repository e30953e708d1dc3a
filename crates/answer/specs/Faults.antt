-- What the refusals of a session say.
use Rattle.std.specs.Prelude.{ℕ}
use Rattle.trace.specs.Faults.{record_number, trace_number}
use Rattle.reel.specs.Reels.{reel_number}
use Rattle.answer.specs.declared.fault.Layer.{Layer}
use Rattle.answer.specs.declared.fault.Layer.TheVariants.{Record, Trace, Reel, Pair}
use Rattle.answer.specs.declared.fault.EntryFault.{EntryFault}
use Rattle.answer.specs.declared.fault.EntryFault.TheVariants.{Record as ByRecord, Trace as ByTrace, Reel as ByReel}
use Rattle.answer.specs.declared.fault.PairFault.{PairFault}
use Rattle.answer.specs.declared.fault.PairFault.TheVariants.{NoEvent, Order, NoConflict}
use Rattle.answer.specs.declared.fault.EntryRefusal.{EntryRefusal}

-- the number of a refusal of a record
abbrev pub entry_number : EntryFault → ℕ
entry_number (ByRecord f) = record_number f
entry_number (ByTrace f) = trace_number f
entry_number (ByReel f) = reel_number f

-- the layer that refuses it
abbrev pub entry_layer : EntryFault → Layer
entry_layer (ByRecord f) = Record
entry_layer (ByTrace f) = Trace
entry_layer (ByReel f) = Reel

-- the number of a refusal of a question about two positions
abbrev pub pair_number : PairFault → ℕ
pair_number NoEvent = 8
pair_number Order = 9
pair_number NoConflict = 10

-- the layer that refuses it
abbrev pub pair_layer : PairFault → Layer
pair_layer f = Pair

-- a refusal as its reader sees it: the number, the layer, and the index of the record
pub record Refusal : Type 0 where
  pub number : ℕ
  pub layer : Layer
  pub index : ℕ

-- what a refusal of a record says
abbrev pub refusal : EntryRefusal → Refusal
refusal r = record { number = entry_number r.fault; layer = entry_layer r.fault; index = r.index }

-- the refusal of record i
abbrev pub at_index : ℕ → EntryFault → EntryRefusal
at_index i f = record { fault = f; index = i }
