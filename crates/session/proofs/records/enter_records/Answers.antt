use Rattle.std.proofs.Common.{◌≡◌, ◌∙◌}
use Rattle.std.proofs.lemmas.Result.{err_from_is_err_and}
use Rattle.session.proofs.Loads.{next_piece, loading_none, loading_more, loading_all, stopped}
use Rattle.session.proofs.records.enter_records.Goals as goal

pub loop-index-preserved : goal.loop-index-preserved
loop-index-preserved g c =
    let i = c.loop-index.invariant in
    let s = c.in-Some.ensures.steps in
    let p = next_piece _ _ _ _ _ _ i.1 i.2 s.0.1.0 s.0.1.1 s.0.1.2 in
    rw s.2 (loading_more _ _ i.0 p.0 p.1 (rw s.1 at c.in_ok-enter_record.ensures), p.2, s.0.0 ∙ i.2)

pub returns-in_err-enter_record : goal.returns-in_err-enter_record
returns-in_err-enter_record g c =
    let e = err_from_is_err_and c.from_residual.result c.from_residual.ensures.1 in
    let i = c.loop-index.invariant in
    let s = c.in-Some.ensures.steps in
    let p = next_piece _ _ _ _ _ _ i.1 i.2 s.0.1.0 s.0.1.1 s.0.1.2 in
    rw (e.1, e.2) (stopped _ _ i.0 p.0 p.1 _ (rw s.1 at c.in_err-enter_record.ensures))

pub returns : goal.returns
returns g c =
    let i = c.loop-index.invariant in
    loading_all _ _ _ _ i.0 i.1 c.in-None.ensures.steps.0.1.0 c.div_ceil.ensures

pub loop-index-init : goal.loop-index-init
loop-index-init g c =
    let none : c.into_iter-index-iterator.result.count ≡ 0 = cc in
    let rest : c.into_iter-index-iterator.result.iter.rest.now ≡ c.args.bytes.now = cc in
    let size : c.into_iter-index-iterator.result.iter.size ≡ 8 = cc in
    rw none (loading_none c.args.session.now c.args.bytes.now, rest, size)
