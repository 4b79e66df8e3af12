-- The loop keeps what is late of the records passed. Assumes nothing.
use Rattle.verdict.specs.Late.{LateOf}
use Rattle.verdict.proofs.late.late_records.Given as goal

abbrev pub invariant-loop-k : goal.invariant-loop-k
invariant-loop-k l = LateOf l.horizon l.due l.start l.end l.k l.late
