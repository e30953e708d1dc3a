use Rattle.std.proofs.Common.{◌≡◌, Some, None, sym, refl, rules}
use Rattle.std.proofs.lemmas.Result.{err_from_is_err_and}
use Rattle.answer.specs.declared.verdict.WitnessFault.TheVariants.{NoRace as NothingShown}
use Rattle.session.specs.Races.Witnessed.{refused, no_race, written}
use Rattle.session.proofs.Racing.{found_race, found_none, found_shows}
use Rattle.session.proofs.session.Session.witness.Goals as goal

pub returns-in_err-check_pair : goal.returns-in_err-check_pair
returns-in_err-check_pair g c =
    let p = err_from_is_err_and c.from_residual.result c.from_residual.ensures.1 in
    let n = sym c.in_err-check_pair.ensures in
    rw (p.1, p.2) (record { closure = refused n; shows = refused n })

pub returns-in_err-cut : goal.returns-in_err-cut
returns-in_err-cut g c =
    let p = err_from_is_err_and c.from_residual-in_err-cut.result c.from_residual-in_err-cut.ensures.1 in
    let none = c.in_ok-check_pair.ensures in
    let is : c.race.result ≡ None = search rules in
    let n = (found_none _ _ _ c.race.ensures.admitted none (rw is at (c.race.ensures.found none))).1 in
    let shown : c.in_err-cut.field-0.0 ≡ NothingShown = search rules in
    rw (p.1, p.2, shown) (record { closure = no_race refl (sym none) n; shows = no_race refl (sym none) n })

pub returns-in_err-write_cut : goal.returns-in_err-write_cut
returns-in_err-write_cut g c =
    let p = err_from_is_err_and c.from_residual-in_err-write_cut.result c.from_residual-in_err-write_cut.ensures.1 in
    let none = c.in_ok-check_pair.ensures in
    let ok = c.race.ensures.admitted in
    let is : c.race.result ≡ Some c.in_ok-cut.cut = search rules in
    let f = rw is at (c.race.ensures.found none) in
    let races = (found_race _ _ _ ok none c.in_ok-cut.cut f).1 in
    let full = c.in_err-write_cut.ensures in
    rw (p.1, p.2)
    (record {
      closure = written (sym none) races (_, f.0, refl) full;
      shows = written (sym none) races (found_shows _ _ _ ok none c.in_ok-cut.cut f) full;
    })

pub returns : goal.returns
returns g c =
    let none = c.in_ok-check_pair.ensures in
    let ok = c.race.ensures.admitted in
    let is : c.race.result ≡ Some c.in_ok-cut.cut = search rules in
    let f = rw is at (c.race.ensures.found none) in
    let races = (found_race _ _ _ ok none c.in_ok-cut.cut f).1 in
    let whole = c.in_ok-write_cut.ensures in
    record {
      closure = written (sym none) races (_, f.0, refl) whole;
      shows = written (sym none) races (found_shows _ _ _ ok none c.in_ok-cut.cut f) whole;
    }
