use Rattle.std.proofs.Common.{◌≡◌, Ok, Err, Result, ap, refl, ◌∙◌, rules}
use Rattle.std.proofs.lemmas.Result.{err_from_is_err_and}
use Rattle.trace.specs.Faults.{told}
use Rattle.answer.specs.declared.fault.EntryFault.{EntryFault}
use Rattle.answer.specs.Faults.{at_index}
use Rattle.session.proofs.session.Session.enter.Goals as goal

pub returns : goal.returns
returns g c = rw (by c.take_record.result refl) c.take_record.ensures
  where
    by : (r : Result (Unit {0}) EntryFault) → c.take_record.result ≡ r → c.map_err.result ≡ told (at_index 0) c.take_record.result
    by (Ok x) q = rw q (rw q at c.map_err.ensures.cases)
    by (Err f) q =
        let k = err_from_is_err_and c.map_err.result (rw q at c.map_err.ensures.cases) in
        let h = k.2 in
        let e : k.0 ≡ at_index 0 f = search rules in
        rw q (k.1 ∙ ap Err e)
