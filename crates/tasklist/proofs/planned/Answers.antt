-- The file's own refusals, 11, or how many tasks are stored. Assumes nothing.
use Rattle.std.proofs.lemmas.Result.{err_from_is_err_and}
use Rattle.openfile.proofs.WholeOrRefused.{ok_tells, err_tells}
use Rattle.tasklist.proofs.Plan.{plan_refused, plan_whole}
use Rattle.tasklist.proofs.planned.Goals as goal

pub returns-in_err-head : goal.returns-in_err-head
returns-in_err-head c = λ l e.
    let p = err_from_is_err_and c.from_residual.result c.from_residual.ensures.1 in
    rw (p.1, p.2) (plan_refused _ l _ (err_tells _ c.open_file.ensures c.in_err-head.was))

pub returns : goal.returns
returns c = λ l e. plan_whole _ l _ _ (ok_tells _ c.open_file.ensures c.in_ok-head.was) (rw e c.room_for.ensures)
