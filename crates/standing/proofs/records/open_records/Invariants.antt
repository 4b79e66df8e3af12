-- What stands of the first k jobs is there. Assumes nothing.
use Rattle.standing.proofs.RecordRows.{Opening}
use Rattle.standing.proofs.records.open_records.Given as goal

abbrev pub invariant-loop-k : goal.invariant-loop-k
invariant-loop-k l = Opening l.o.file.now l.o.head l.tasks l.initial.t l.m l.t l.k
