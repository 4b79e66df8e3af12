-- The first j jobs of the task are there. Assumes nothing.
use Rattle.standing.proofs.JobRows.{Tasked}
use Rattle.standing.proofs.jobs.list_task.Given as goal

abbrev pub invariant-loop-j : goal.invariant-loop-j
invariant-loop-j l = Tasked l.i l.count l.initial.t l.m l.at l.t l.j
