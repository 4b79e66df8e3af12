-- The loop keeps the latest of the instants at which the cores passed begin. Assumes nothing.
use Prim.Native.Nat.{◌+◌, ◌≤◌}
use Rattle.idle.specs.Idle.{Begun}
use Rattle.idle.proofs.running.Records.all_begun.Given as goal

abbrev pub invariant-loop-c : goal.invariant-loop-c
invariant-loop-c l = (l.c ≤ l.self.cores + 1) × Begun l.self.start.now l.self.end.now l.self.core.now l.c l.begun
