use Rattle.std.proofs.Common.{arith}
use Rattle.std.proofs.lemmas.List.{with_items_is}
use Rattle.run.specs.Runs.Served.{entered, loaded, judged}
use Rattle.run.proofs.Serving.{witness_served, partners_served, sweep_served}
use Rattle.run.proofs.serve.Goals as goal

pub returns-in-Enter-clause-served : goal.returns-in-Enter-clause-served
returns-in-Enter-clause-served g c =
    let taken = rw c.as_slice.ensures.value at c.enter.ensures in
    rw c.in-Enter.is (entered taken.answer)

pub returns-in-Load-clause-served : goal.returns-in-Load-clause-served
returns-in-Load-clause-served g c =
    let taken = rw c.as_slice-in-Load.ensures.value at c.load.ensures in
    rw c.in-Load.is (loaded taken.answer)

pub returns-in-Judge-clause-served : goal.returns-in-Judge-clause-served
returns-in-Judge-clause-served g c = rw c.in-Judge.is (judged c.judge.ensures.races)

pub returns-in-Witness-clause-served : goal.returns-in-Witness-clause-served
returns-in-Witness-clause-served g c =
    let a = c.witness.auto.buffer in
    let k = c.as_mut_slice.ensures.len in
    rw c.in-Witness.is
    (witness_served _ _ c.as_mut_slice.ensures.value (with_items_is c.in-Witness.buffer c.witness.new.buffer (omega arith)) _ _ _ _ c.witness.ensures.shows)

pub returns-in-Partners-clause-served : goal.returns-in-Partners-clause-served
returns-in-Partners-clause-served g c =
    let a = c.partners.auto.buffer in
    let k = c.as_mut_slice-in-Partners.ensures.len in
    rw c.in-Partners.is
    (partners_served _ _ c.as_mut_slice-in-Partners.ensures.value (with_items_is c.in-Partners.buffer c.partners.new.buffer (omega arith)) _ _ _ c.partners.ensures)

pub returns-in-Sweep-clause-served : goal.returns-in-Sweep-clause-served
returns-in-Sweep-clause-served g c =
    let a = c.sweep.auto.buffer in
    let k = c.as_mut_slice-in-Sweep.ensures.len in
    rw c.in-Sweep.is
    (sweep_served _ _ c.as_mut_slice-in-Sweep.ensures.value (with_items_is c.in-Sweep.buffer c.sweep.new.buffer (omega arith)) _ _ c.sweep.ensures)
