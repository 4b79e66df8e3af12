-- The first i tasks of the file stand in the list, and the entries past them are as they were. Assumes nothing.
use Rattle.std.proofs.Common.{◌≡◌, ◌-◌, ◌≤◌}
use Rattle.tasklist.proofs.StoredInTurn.{stored}
use Rattle.tasklist.proofs.fill_tasks.Given as goal

abbrev pub invariant-loop-i : goal.invariant-loop-i
invariant-loop-i l = record { within : l.i ≤ l.n; list : l.list ≡ stored l.file l.fn.list l.i }

abbrev pub decreases-loop-i : goal.decreases-loop-i
decreases-loop-i l = l.n - l.i
