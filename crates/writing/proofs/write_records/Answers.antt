use native.Mathlib.Omega.{arith}
use mathlib.Core.Path.{refl, ap}
use Rattle.model.specs.File.{record_numbers}
use Rattle.writing.specs.WrittenRows.{record_row}
use Rattle.writing.proofs.Writing.{rows_none, rows_more}
use Rattle.writing.proofs.write_records.Goals as goal

pub loop-k-init : goal.loop-k-init
loop-k-init c = rows_none _ (omega arith)

pub loop-k-preserved : goal.loop-k-preserved
unfolding record_row
loop-k-preserved c =
    let loop = c.loop-k in
    rows_more _ loop.k loop.invariant c.write_record.ensures refl (ap record_numbers c.record_in.ensures) (omega arith)
