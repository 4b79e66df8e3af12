-- The loop writes the column. Assumes nothing.
use Rattle.idle.specs.Idle.{Untils}
use Rattle.idle.proofs.running.Records.idle_until.Given as goal

abbrev pub invariant-loop-k : goal.invariant-loop-k
invariant-loop-k l = Untils l.self.start.now l.self.end.now l.self.core.now l.self.cores l.k l.until
