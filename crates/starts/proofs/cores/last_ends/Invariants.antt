-- The last ends, job by job. Assumes nothing.
use lib.ListN.{length}
use Rattle.starts.specs.Cores.{Lasts}
use Rattle.starts.proofs.cores.last_ends.Given as goal

abbrev pub invariant-loop-c : goal.invariant-loop-c
invariant-loop-c l = Lasts (length l.yielded) l.core l.end l.ends
