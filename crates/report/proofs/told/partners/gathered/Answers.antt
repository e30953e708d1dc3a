use Rattle.std.proofs.Common.{arith, length-take}
use Rattle.std.proofs.lemmas.Result.{IfOk-weaker}
use Rattle.report.proofs.Witnessing.{partners_answered, not_gathered}
use Rattle.report.proofs.told.partners.gathered.Goals as goal

pub slice_bounds-partners_text-end : goal.slice_bounds-partners_text-end
slice_bounds-partners_text-end g c = let a = partners_answered c.partners.ensures c.in-Ok.is in a.0

pub slice_bounds-partners_text-end-in-Ok : goal.slice_bounds-partners_text-end-in-Ok
slice_bounds-partners_text-end-in-Ok g c =
    let a = partners_answered c.partners.ensures c.in-Ok.is in
    let w = a.0 in
    omega (arith, length-take c.in-Ok.count c.partners.new.buffer)

pub returns-in-Ok : goal.returns-in-Ok
returns-in-Ok g c = λ room.
    let a = partners_answered c.partners.ensures c.in-Ok.is in
    IfOk-weaker c.partners_text.result _ _ (λ r told. rw (told.0, told.1) a.1) c.partners_text.ensures

pub returns-in_ok-refused_question-in-Err : goal.returns-in_ok-refused_question-in-Err
returns-in_ok-refused_question-in-Err g c = λ room.
    rw (c.in_ok-refused_question-in-Err.ensures, c.count-count.ensures, c.as_witness_fault.ensures) (not_gathered room c.partners.ensures c.in-Err.is)
