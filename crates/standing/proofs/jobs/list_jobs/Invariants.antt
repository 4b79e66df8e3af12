-- The jobs of the first i tasks are there. Assumes nothing.
use Rattle.standing.proofs.JobRows.{Listing}
use Rattle.standing.proofs.jobs.list_jobs.Given as goal

abbrev pub invariant-loop-i : goal.invariant-loop-i
invariant-loop-i l = Listing l.fn.tasks l.fn.n l.horizon l.initial.t l.m l.t l.at l.i
