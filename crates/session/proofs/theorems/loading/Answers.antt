-- The proofs of the theorems of `loading`.
use Rattle.session.proofs.theorems.loading.Goals as goal
use Rattle.session.proofs.Loading.{load_takes, load_adds, load_stops, load_measures, loads_whole}

pub returns : goal.returns
returns c = (load_takes, load_adds, load_stops, load_measures, loads_whole)
