-- Row after row. Assumes nothing.
use mathlib.Core.Path.{refl}
use native.Mathlib.Omega.{arith}
use Rattle.table.proofs.LentLaws.{sized_as, rows_with}
use Rattle.importfile.proofs.InOrder.{picked}
use Rattle.importfile.proofs.rows.lay_out.Goals as goal

pub loop-k-preserved : goal.loop-k-preserved
loop-k-preserved c =
    let a = c.args in
    let put = c.put_row.ensures in
    let loop = c.loop-k in
    (sized_as put.long loop.invariant.0, λ σ e L. rows_with (loop.invariant.1 σ e L) 6 (omega arith) put (rw (picked σ a.rows.now a.order.now loop.k e (omega arith))) refl)
