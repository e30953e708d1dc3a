-- What a C host is answered about a dump and two positions.
use Rattle.std.specs.Prelude.{◌≡◌, ℕ, ◌+◌, List, [], Ok, Err, Result}
use Rattle.trace.specs.Faults.{told}
use Rattle.answer.specs.declared.fault.PairFault.{PairFault}
use Rattle.answer.specs.declared.verdict.Verdict.{Verdict}
use Rattle.reel.specs.Boards.{board_room}
use Rattle.answer.specs.Faults.{Refusal, entry_number, pair_number}
use Rattle.session.specs.Entries.{Outcome, load}
use Rattle.answer.specs.Verdicts.{verdict_number}
use Rattle.session.specs.Races.{Races, Judged}
use Rattle.host.specs.declared.HostFault.{HostFault}
use Rattle.host.specs.declared.HostFault.TheVariants.{Load, Judge}

-- the number of a refusal: that of Load, or that of Judge
abbrev pub fault_number : HostFault → ℕ
fault_number (Load r) = entry_number r.fault
fault_number (Judge f) = pair_number f

-- an answer as one number: 0 for no race, 1 for race, 100 and the number for a refusal
abbrev pub answer_number : Result Verdict ℕ → ℕ
answer_number (Ok v) = verdict_number v
answer_number (Err n) = 100 + n

-- Load of a dump into an empty trace with the room of a board reel
abbrev pub loaded : List ℕ → Outcome ℕ
loaded dump = load board_room [] dump

-- the number that a host is answered: where Load refuses the dump, that of its refusal; else that of what Judge answers about p and q on the
-- trace that is loaded
pub data HostAnswers (dump : List ℕ) (p q : ℕ) : ℕ → Type 0 where
  not_loaded : {r : Refusal} → (loaded dump).answer ≡ Err r → HostAnswers dump p q (answer_number (Err r.number))
  judged : {count : ℕ} {v : Result Verdict PairFault} → (loaded dump).answer ≡ Ok count
      → Judged (loaded dump).events p q (Races (loaded dump).events p q) v → HostAnswers dump p q (answer_number (told pair_number v))
