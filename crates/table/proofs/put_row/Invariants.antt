use lib.ListN.{take}
use Rattle.table.specs.Table.{PutRow}
use Rattle.table.proofs.put_row.Given as goal

abbrev pub invariant-loop-i : goal.invariant-loop-i
invariant-loop-i l = PutRow l.n l.k l.j (take l.i l.numbers) l.initial.t l.t
