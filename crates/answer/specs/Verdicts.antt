-- The numbers of verdicts, and the numbers and layers of the refusals of calls about races.
use Rattle.std.specs.Prelude.{ℕ}
use Rattle.answer.specs.declared.fault.Layer.{Layer}
use Rattle.answer.specs.declared.fault.Layer.TheVariants.{Pair, Verdict}
use Rattle.answer.specs.declared.verdict.Verdict.{Verdict as Judgement}
use Rattle.answer.specs.declared.verdict.Verdict.TheVariants.{Race, NoRace}
use Rattle.answer.specs.declared.verdict.WitnessFault.{WitnessFault}
use Rattle.answer.specs.declared.verdict.WitnessFault.TheVariants.{Pair as ByPair, NoRace as NothingShown, Buffer as ByBuffer}
use Rattle.answer.specs.declared.verdict.PartnersFault.{PartnersFault}
use Rattle.answer.specs.declared.verdict.PartnersFault.TheVariants.{NoEvent, Buffer as BufferOf}
use Rattle.answer.specs.Faults.{pair_number, pair_layer}
use Rattle.answer.specs.Buffers.{buffer_number, buffer_layer}

-- the number of a verdict: 1 race, 0 no race
abbrev pub verdict_number : Judgement → ℕ
verdict_number Race = 1
verdict_number NoRace = 0

-- the number of a refusal of a witness: those of the pair, 11 where it is no race, 12 where the buffer is too small
abbrev pub witness_number : WitnessFault → ℕ
witness_number (ByPair f) = pair_number f
witness_number NothingShown = 11
witness_number (ByBuffer f) = buffer_number f

-- the layer that refuses it
abbrev pub witness_layer : WitnessFault → Layer
witness_layer (ByPair f) = pair_layer f
witness_layer NothingShown = Verdict
witness_layer (ByBuffer f) = buffer_layer f

-- the number of a refusal of Partners: 8 where there is no such position, 12 where the buffer is too small
abbrev pub partners_number : PartnersFault → ℕ
partners_number NoEvent = 8
partners_number (BufferOf f) = buffer_number f

-- the layer that refuses it
abbrev pub partners_layer : PartnersFault → Layer
partners_layer NoEvent = Pair
partners_layer (BufferOf f) = buffer_layer f
