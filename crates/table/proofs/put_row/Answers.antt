use Prim.Native.Nat.{◌+◌}
use native.Mathlib.Omega.{arith}
use Rattle.table.specs.Table.{columns}
use Rattle.table.proofs.ColumnsApart.{column_within}
use Rattle.table.proofs.OneRow.{put_on}
use Rattle.table.proofs.put_row.Goals as goal

pub loop-i-preserved : goal.loop-i-preserved
loop-i-preserved c =
    let a = c.args in
    let i = c.loop-i.i in
    put_on a.numbers.now i c.loop-i.invariant (omega arith) (omega arith) (omega (arith, column_within columns (a.j + i) a.n (omega arith)))
