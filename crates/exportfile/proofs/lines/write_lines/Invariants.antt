-- The header, and then the lines so far. Assumes nothing.
use lib.ListN.{take}
use Rattle.text.specs.Paste.{Wrote}
use Rattle.exportfile.specs.LinesOf.{lines_by}
use Rattle.exportfile.proofs.lines.write_lines.Given as goal

abbrev pub invariant-loop-k : goal.invariant-loop-k
invariant-loop-k l = Wrote l.initial.output l.initial.next (lines_by l.o.file.now l.o.head.records_at (take l.k-index l.order)) l.output l.next
