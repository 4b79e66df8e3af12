use Prim.Native.Nat.{◌+◌, ◌*◌}
use Rattle.model.specs.File.{record_size}
use Rattle.writing.specs.WrittenRows.{Wrote, rows, record_row}
use Rattle.writing.proofs.write_records.Given as goal

abbrev pub invariant-loop-k : goal.invariant-loop-k
invariant-loop-k l = Wrote l.initial.output l.at (rows (record_row l.t l.n) l.k) l.output (l.at + record_size * l.k)
