use Prim.Native.Nat.{◌+◌, ◌*◌}
use lib.ListN.{take}
use Rattle.writing.specs.WrittenRows.{Wrote}
use Rattle.writing.proofs.write_numbers.Given as goal

abbrev pub invariant-loop-i : goal.invariant-loop-i
invariant-loop-i l = Wrote l.initial.output l.at (take l.i l.numbers) l.output (l.at + 4 * l.i)
