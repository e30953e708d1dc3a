use Rattle.std.proofs.Common.{arith, length-take}
use Rattle.report.proofs.Witnessing.{answered, not_shown}
use Rattle.report.proofs.told.witness.shown.Goals as goal
use Rattle.report.proofs.told.witness.shown.Goals.{in-Ok+in_ok-witness_text-in-Ok, in-Err+in_ok-refused_question-in-Err}

pub slice_bounds-witness_text-end : goal.slice_bounds-witness_text-end
slice_bounds-witness_text-end g c = let a = answered c.witness.ensures.shows c.in-Ok.is in a.within

pub slice_bounds-witness_text-end-in-Ok : goal.slice_bounds-witness_text-end-in-Ok
slice_bounds-witness_text-end-in-Ok g c =
    let a = answered c.witness.ensures.shows c.in-Ok.is in
    let w = a.within in
    omega (arith, length-take c.in-Ok.count c.witness.new.buffer)

pub returns : goal.returns
returns g c = λ count room. elim c.match-witness.branch [
  | in-Ok+in_ok-witness_text-in-Ok w ↦
      let a = answered c.witness.ensures.shows w.in-Ok.is in
      rw (w.text-is, w.in_ok-witness_text-in-Ok.ensures) a.told
  | in-Err+in_ok-refused_question-in-Err w ↦
      rw (w.text-is, w.in_ok-refused_question-in-Err.ensures, count, w.finding_of.ensures) (not_shown room c.witness.ensures.shows w.in-Err.is)
]
