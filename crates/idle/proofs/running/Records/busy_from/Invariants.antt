-- The loop keeps the first instant at which one of the records passed runs on the core. Assumes nothing.
use Rattle.idle.specs.FirstFrom.{FirstFrom, Among}
use Rattle.idle.proofs.Busy.{RunsIn}
use Rattle.idle.proofs.running.Records.busy_from.Given as goal

abbrev pub invariant-loop-k : goal.invariant-loop-k
invariant-loop-k l = FirstFrom (Among (RunsIn l.self.start.now l.self.end.now l.self.core.now l.c) l.k) l.t l.first
