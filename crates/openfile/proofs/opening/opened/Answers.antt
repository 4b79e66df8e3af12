use Rattle.std.proofs.lemmas.Result.{err_from_is_err_and}
use Rattle.openfile.proofs.WholeOrRefused.{ok_tells, err_tells, tells_own}
use Rattle.openfile.proofs.opening.opened.Goals as goal

pub returns-in_err-head : goal.returns-in_err-head
returns-in_err-head c =
    let p = err_from_is_err_and c.from_residual.result c.from_residual.ensures.1 in
    rw (p.1, p.2) (err_tells _ c.open_file.ensures c.in_err-head.was)

pub invariant_of-result : goal.invariant_of-result
invariant_of-result c = record { tells = tells_own (ok_tells _ c.open_file.ensures c.in_ok-head.was) }
