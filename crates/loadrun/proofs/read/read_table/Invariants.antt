use Rattle.openfile.specs.Head.{run_in}
use Rattle.table.specs.Table.{Loads}
use Rattle.loadrun.proofs.read.read_table.Given as goal

abbrev pub invariant-loop-j : goal.invariant-loop-j
invariant-loop-j l = Loads l.j (run_in l.fn.o.file.now) l.n l.initial.t l.t
