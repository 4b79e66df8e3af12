-- Filled up to here. Assumes nothing.
use Rattle.base.specs.Fill.{Fills}
use Rattle.exportfile.specs.LinesOf.{start_of}
use Rattle.exportfile.proofs.by_start.fill_starts.Given as goal

abbrev pub invariant-loop-k : goal.invariant-loop-k
invariant-loop-k l = Fills l.initial.keys 0 l.k (start_of l.o.file.now l.o.head.records_at) l.keys
