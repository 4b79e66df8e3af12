use Prim.Native.Nat.{◌≤◌, ◌-◌}
use Rattle.openfile.proofs.Tallied.{TalliedTo}
use Rattle.openfile.proofs.tally.tally_tasks.Given as goal

abbrev pub invariant-loop-i : goal.invariant-loop-i
invariant-loop-i l = (l.i ≤ l.n) × TalliedTo l.file l.horizon l.n l.i l.sum

abbrev pub decreases-loop-i : goal.decreases-loop-i
decreases-loop-i l = l.n - l.i
