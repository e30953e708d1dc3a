-- The text of the answered calls of a run: a line for each, in their order.
use Rattle.std.specs.Prelude.{◌≡◌, ℕ, List, [], ◌∷◌, ◌++◌, Some, None, Ok, Err, Option, vec_items, codes, decimal, Result}
use Rattle.std.specs.Borrow.{Bor}
use Rattle.std.specs.List.{flat_map}
use Rattle.answer.specs.declared.collector.BufferFault.{BufferFault}
use Rattle.answer.specs.declared.fault.EntryRefusal.{EntryRefusal}
use Rattle.answer.specs.declared.fault.PairFault.{PairFault}
use Rattle.answer.specs.declared.fault.Layer.{Layer}
use Rattle.answer.specs.declared.fault.Layer.TheVariants.{Record, Trace, Reel, Pair, Verdict, Buffer}
use Rattle.answer.specs.declared.verdict.RacePair.{RacePair}
use Rattle.answer.specs.declared.verdict.Verdict.{Verdict as Judgement}
use Rattle.answer.specs.declared.verdict.Verdict.TheVariants.{Race, NoRace}
use Rattle.answer.specs.declared.verdict.WitnessFault.{WitnessFault}
use Rattle.answer.specs.declared.verdict.PartnersFault.{PartnersFault}
use Rattle.run.specs.declared.Call.{Call}
use Rattle.run.specs.declared.Call.TheVariants.{Enter, Load, Judge, Witness, Partners, Sweep}
use Rattle.answer.specs.Faults.{Refusal, refusal, pair_number}
use Rattle.answer.specs.Buffers.{buffer_number}
use Rattle.answer.specs.Verdicts.{witness_number, partners_number}
use Rattle.run.specs.Runs.{Upholds}

-- the name of a layer
abbrev pub layer_name : Layer → List ℕ
layer_name Record = codes "record"
layer_name Trace = codes "trace"
layer_name Reel = codes "reel"
layer_name Pair = codes "pair"
layer_name Verdict = codes "verdict"
layer_name Buffer = codes "buffer"

-- a verdict in words
abbrev pub verdict_name : Judgement → List ℕ
verdict_name Race = codes "race"
verdict_name NoRace = codes "no race"

-- a position, as an entry of a buffer after a blank
abbrev pub position_entry : ℕ → List ℕ
position_entry k = codes " " ++ decimal k

-- a pair, likewise: its two positions
abbrev pub pair_entry : RacePair → List ℕ
pair_entry x = codes " " ++ (decimal x.first ++ (codes "-" ++ decimal x.second))

-- what a call says of a record that it refuses: the number of the refusal, its layer and the index of the record
abbrev pub refused_entry : Refusal → List ℕ
refused_entry r = codes "refused " ++ (decimal r.number ++ (codes " " ++ (layer_name r.layer ++ (codes " " ++ decimal r.index))))

-- the line of a call that refuses a record, after the word of the call
abbrev pub entry_refused_line : List ℕ → Refusal → List ℕ
entry_refused_line call r = call ++ (codes " " ++ (refused_entry r ++ codes "\n"))

-- the line of a call that answers how many entries it has for its buffer, which holds these
abbrev pub counted_line : List ℕ → ℕ → List ℕ → List ℕ
counted_line call count entries = call ++ (codes " " ++ (decimal count ++ (codes " buffer" ++ (entries ++ codes "\n"))))

-- the line of such a call that is refused
abbrev pub refused_line : List ℕ → ℕ → List ℕ → List ℕ
refused_line call number entries = call ++ (codes " refused " ++ (decimal number ++ (codes " buffer" ++ (entries ++ codes "\n"))))

-- the line of a call that is still to be performed
abbrev pub waiting_line : List ℕ → List ℕ
waiting_line call = call ++ codes " not performed\n"

-- the line of a call that fills a buffer: the word of the call, its answer or the number of its refusal, and the entries
abbrev pub buffer_line : {F A : Type 0} → (F → ℕ) → (A → List ℕ) → List ℕ → Option (Result ℕ F) → List A → List ℕ
buffer_line number entry call (Some (Ok count)) buffer = counted_line call count (flat_map entry buffer)
buffer_line number entry call (Some (Err f)) buffer = refused_line call (number f) (flat_map entry buffer)
buffer_line number entry call None buffer = waiting_line call

-- the line of Enter: that the record is taken, or what refuses it
abbrev pub enter_line : Option (Result (Unit {0}) EntryRefusal) → List ℕ
enter_line (Some (Ok taken)) = codes "enter taken\n"
enter_line (Some (Err r)) = entry_refused_line (codes "enter") (refusal r)
enter_line None = waiting_line (codes "enter")

-- the line of Load: how many records it took, or what refuses one
abbrev pub load_line : Option (Result ℕ EntryRefusal) → List ℕ
load_line (Some (Ok count)) = codes "load " ++ (decimal count ++ codes "\n")
load_line (Some (Err r)) = entry_refused_line (codes "load") (refusal r)
load_line None = waiting_line (codes "load")

-- the line of Judge: the verdict, or the number of the refusal
abbrev pub judge_line : Option (Result Judgement PairFault) → List ℕ
judge_line (Some (Ok verdict)) = codes "judge " ++ (verdict_name verdict ++ codes "\n")
judge_line (Some (Err f)) = codes "judge refused " ++ (decimal (pair_number f) ++ codes "\n")
judge_line None = waiting_line (codes "judge")

-- the line of Witness, with the positions in its buffer
abbrev pub witness_line : Option (Result ℕ WitnessFault) → List ℕ → List ℕ
witness_line r buffer = buffer_line witness_number position_entry (codes "witness") r buffer

-- the line of Partners, with the positions in its buffer
abbrev pub partners_line : Option (Result ℕ PartnersFault) → List ℕ → List ℕ
partners_line r buffer = buffer_line partners_number position_entry (codes "partners") r buffer

-- the line of Sweep, with the pairs in its buffer
abbrev pub sweep_line : Option (Result ℕ BufferFault) → List RacePair → List ℕ
sweep_line r buffer = buffer_line buffer_number pair_entry (codes "sweep") r buffer

-- the line of a call, by what it answered
abbrev pub reply_line : Call → List ℕ
reply_line (Enter bytes r) = enter_line r
reply_line (Load bytes r) = load_line r
reply_line (Judge p q r) = judge_line r
reply_line (Witness p q buffer r) = witness_line r (vec_items buffer)
reply_line (Partners q buffer r) = partners_line r (vec_items buffer)
reply_line (Sweep buffer r) = sweep_line r (vec_items buffer)

-- the lines of calls
abbrev pub reply_lines : List Call → List ℕ
reply_lines calls = flat_map reply_line calls

-- the words that stand for a call in a script, and the line of the call below
abbrev pub told_line : List ℕ → Call → List ℕ
told_line words call = codes "> " ++ (words ++ (codes "\n" ++ reply_line call))

-- the same of calls and their words, one after another; a call behind the last words has its line alone
abbrev pub told_lines : List (Bor (List ℕ)) → List Call → List ℕ
told_lines [] calls = reply_lines calls
told_lines (w ∷ words) [] = []
told_lines (w ∷ words) (c ∷ calls) = told_line w.now c ++ told_lines words calls

-- the text has the words of these calls and their lines, a line for each, as they come back from a run that keeps the promise over whole runs
pub record Told (room : ℕ) (words : List (Bor (List ℕ))) (calls : List Call) (text : List ℕ) : Type 0 where
  pub back : List Call
  pub upheld : Upholds room calls back
  pub text_is : text ≡ told_lines words back
