-- Rule 8: each record's wait is looked at, the first record first. Assumes nothing.
use Rattle.base.proofs.Loop.{NothingTo}
use Rattle.idle.specs.Idle.{idle_in}
use Rattle.idle.proofs.idle_over.Given as goal

abbrev pub invariant-loop-a : goal.invariant-loop-a
invariant-loop-a g l = NothingTo (idle_in l.records.start.now l.records.end.now l.records.core.now l.records.cores l.ready) 0 l.a
