use native.Mathlib.Omega.{arith}
use mathlib.Core.Path.{refl}
use Rattle.writing.specs.WrittenRows.{task_row}
use Rattle.writing.proofs.Writing.{rows_none, rows_more}
use Rattle.writing.proofs.write_tasks.Goals as goal

pub loop-i-init : goal.loop-i-init
loop-i-init c = rows_none _ (omega arith)

pub loop-i-preserved : goal.loop-i-preserved
unfolding task_row
loop-i-preserved c =
    let loop = c.loop-i in
    rows_more _ loop.i loop.invariant c.write_task.ensures (omega arith) refl (omega arith)
