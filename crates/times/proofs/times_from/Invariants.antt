-- The rows of the first k records are filled in, and what comes after them stands. Assumes nothing.
use Rattle.times.proofs.RowAfterRow.{Filling}
use Rattle.times.proofs.times_from.Given as goal

abbrev pub invariant-loop-k : goal.invariant-loop-k
invariant-loop-k l = Filling l.stage l.tasks l.fn.t l.n l.t l.k
