use Rattle.std.proofs.Common.{◌≡◌, Ok, Err, Result, ap, refl, ◌∙◌, rules}
use Rattle.std.proofs.lemmas.Result.{err_from_is_err_and}
use Rattle.trace.specs.Faults.{told}
use Rattle.answer.specs.declared.fault.EntryRefusal.{EntryRefusal}
use Rattle.session.proofs.Moved.{moved, entered_at}
use Rattle.session.proofs.records.enter_record.Goals as goal

pub returns : goal.returns
returns g c = rw (by c.enter.result refl) (entered_at c.args.session.now.room c.args.session.now.trace c.args.index _ _ c.enter.ensures)
  where
    by : (r : Result (Unit {0}) EntryRefusal) → c.enter.result ≡ r → c.map_err.result ≡ told (moved c.args.index) c.enter.result
    by (Ok x) q = rw q (rw q at c.map_err.ensures.cases)
    by (Err f) q =
        let k = err_from_is_err_and c.map_err.result (rw q at c.map_err.ensures.cases) in
        let h = k.2 in
        let e : k.0 ≡ moved c.args.index f = search rules in
        rw q (k.1 ∙ ap Err e)
