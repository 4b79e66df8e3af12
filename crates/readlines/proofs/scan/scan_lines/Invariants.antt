-- The invariant: so far the table was read line by line, the records stand at the front of the rows, and their jobs have left their marks.
-- The measure is what is left of the table. Assumes nothing.
use Prim.Native.Nat.{◌-◌}
use lib.ListN.{length}
use Rattle.readlines.proofs.LineByLine.{Scanning}
use Rattle.readlines.proofs.scan.scan_lines.Given as goal

abbrev pub invariant-loop-at : goal.invariant-loop-at
invariant-loop-at l = Scanning l.table l.initial.rows l.at l.n l.rows l.marks

abbrev pub decreases-loop-at : goal.decreases-loop-at
decreases-loop-at l = length l.table - l.at
