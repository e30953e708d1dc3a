-- The two ways to an answer, in a session that was just opened: Load refuses the dump, or Judge answers on the trace that is loaded.
use Rattle.std.proofs.Common.{◌≡◌, ℕ, List, [], Ok, Err, Result, sym, subst}
use Rattle.trace.specs.declared.event.Event.{Event}
use Rattle.trace.specs.Faults.{told}
use Rattle.answer.specs.declared.fault.EntryRefusal.{EntryRefusal}
use Rattle.answer.specs.declared.fault.PairFault.{PairFault}
use Rattle.answer.specs.declared.verdict.Verdict.{Verdict}
use Rattle.answer.specs.Faults.{entry_number, pair_number}
use Rattle.session.specs.States.{State}
use Rattle.session.specs.Entries.{Takes, load}
use Rattle.session.specs.Races.{Races, Judged}
use Rattle.host.specs.Hosts.{answer_number, HostAnswers}
use Rattle.host.specs.Hosts.HostAnswers.{not_loaded, judged}

module _ {dump : List ℕ} {p q : ℕ} {old new : State} (empty : old.trace ≡ []) (room : old.room ≡ 1024) where
  pub load_refuses : {f : EntryRefusal} → Takes (load old.room old.trace dump) old dump (Err f) new
      → HostAnswers dump p q (answer_number (Err (entry_number f.fault)))
  load_refuses takes = not_loaded (sym (rw (empty, room) at takes.answer))

  pub judge_answers : {count : ℕ} {v : Result Verdict PairFault} → Takes (load old.room old.trace dump) old dump (Ok count) new
      → Judged new.trace p q (Races new.trace p q) v → HostAnswers dump p q (answer_number (told pair_number v))
  judge_answers {v = v} takes says =
      judged (sym (rw (empty, room) at takes.answer))
      (subst (λ (s : List Event). Judged s p q (Races s p q) v) (rw (empty, room) at takes.events) says)
