-- 11, or the file is written. Assumes nothing.
use native.Mathlib.Omega.{arith}
use Rattle.importfile.proofs.WaysOfImport.{size_fits, importable, says_11, says_5}
use Rattle.importfile.proofs.file.import_rows.Goals as goal

pub returns-then-output-size : goal.returns-then-output-size
returns-then-output-size c = says_11 c.args.o.tells c.requires _ c.size_of-size.ensures c.if-output-size.true

pub write_import-requires : goal.write_import-requires
write_import-requires c = importable c.args.o.tells c.requires _ c.size_of-size.ensures c.if-output-size.false

pub overflow_cast-result : goal.overflow_cast-result
overflow_cast-result c = omega (arith, size_fits c.args.o.tells c.requires, c.size_of-size.ensures)

pub returns : goal.returns
returns c = says_5 c.args.o.tells c.requires _ c.size_of-size.ensures c.if-output-size.false c.write_import.ensures
