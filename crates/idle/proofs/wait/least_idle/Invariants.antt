-- The loop keeps the first instant within one of the stretches passed. Assumes nothing.
use Rattle.idle.specs.FirstFrom.{FirstFrom}
use Rattle.idle.specs.Idle.{Stretches}
use Rattle.idle.proofs.wait.least_idle.Given as goal

abbrev pub invariant-loop-k : goal.invariant-loop-k
invariant-loop-k l = FirstFrom (Stretches l.end l.until l.k) l.from l.least
