use Rattle.std.proofs.Common.{sym}
use Rattle.std.proofs.lemmas.Result.{err_from_is_err_and}
use Rattle.session.specs.Races.Judged.{refused, race, no_race}
use Rattle.session.proofs.Racing.{found_race, found_none}
use Rattle.session.proofs.session.Session.judge.Goals as goal

pub returns-in_err-check_pair : goal.returns-in_err-check_pair
returns-in_err-check_pair g c =
    let p = err_from_is_err_and c.from_residual.result c.from_residual.ensures.1 in
    let n = sym c.in_err-check_pair.ensures in
    rw (p.1, p.2) (record { closure = refused n; races = refused n })

pub returns-in-Some : goal.returns-in-Some
returns-in-Some g c =
    let none = c.in_ok-check_pair.ensures in
    let f = found_race _ _ _ c.in-Some.ensures.admitted none c.in-Some.field-0 (c.in-Some.ensures.found none) in
    record { closure = race (sym none) f.0; races = race (sym none) f.1 }

pub returns-in-None : goal.returns-in-None
returns-in-None g c =
    let none = c.in_ok-check_pair.ensures in
    let f = found_none _ _ _ c.in-None.ensures.admitted none (c.in-None.ensures.found none) in
    record { closure = no_race (sym none) f.0; races = no_race (sym none) f.1 }
