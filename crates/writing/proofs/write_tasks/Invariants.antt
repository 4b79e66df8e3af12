use Prim.Native.Nat.{◌+◌}
use Rattle.model.specs.File.{tasks_place, records_place}
use Rattle.writing.specs.WrittenRows.{Wrote, rows, task_row}
use Rattle.writing.proofs.write_tasks.Given as goal

abbrev pub invariant-loop-i : goal.invariant-loop-i
invariant-loop-i l = Wrote l.initial.output (tasks_place + 4) (rows (task_row l.tasks) l.i) l.output (records_place l.i)
