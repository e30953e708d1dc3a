use Rattle.std.proofs.lemmas.Result.{err_from_is_err_and}
use Rattle.host.proofs.Hosted.{load_refuses, judge_answers}
use Rattle.host.proofs.verdict.Goals as goal

pub returns-in_err-load : goal.returns-in_err-load
returns-in_err-load c =
    let p = err_from_is_err_and c.from_residual.result c.from_residual.ensures.1 in
    let o = c.open-session.ensures in
    rw (p.1, p.2) (load_refuses o.trace o.room c.in_err-load.ensures)

pub returns-in_err-judge : goal.returns-in_err-judge
returns-in_err-judge c =
    let p = err_from_is_err_and c.from_residual-in_err-judge.result c.from_residual-in_err-judge.ensures.1 in
    let o = c.open-session.ensures in
    rw (p.1, p.2) (judge_answers o.trace o.room c.in_ok-load.ensures c.in_err-judge.ensures.races)

pub returns : goal.returns
returns c = let o = c.open-session.ensures in judge_answers o.trace o.room c.in_ok-load.ensures c.in_ok-judge.ensures.races
