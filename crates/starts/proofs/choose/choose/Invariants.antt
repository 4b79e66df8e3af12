-- The pass over the jobs. Assumes nothing.
use Rattle.starts.specs.Choice.{Choice}
use Rattle.starts.proofs.choose.choose.Given as goal

abbrev pub invariant-loop-k : goal.invariant-loop-k
invariant-loop-k l = Choice l.k l.v l.core l.job l.ready l.rank l.best
