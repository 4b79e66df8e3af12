-- 14, 11, or the table, each by its law. Assumes nothing.
use native.Mathlib.Omega.{arith}
use lib.ListN.{length}
use borrow.Author.Rules.{rules}
use Rattle.openfile.proofs.WholeOrRefused.{tells_few}
use Rattle.exportfile.proofs.EachOutcome.{few_bytes, has_room, says_14, says_11, says_5}
use Rattle.exportfile.proofs.file.export_run.Goals as goal

pub returns-then-not-rising : goal.returns-then-not-rising
returns-then-not-rising c = let T = c.args.o.tells in says_14 T _ c.records_rise-rising.ensures (search rules)

pub returns-then-not-fits : goal.returns-then-not-fits
returns-then-not-fits c =
    let T = c.args.o.tells in
    says_11 T _ c.records_rise-rising.ensures (search rules) c.table_size-size.ensures (search rules)

pub write_table-requires : goal.write_table-requires
write_table-requires c =
    let T = c.args.o.tells in
    let size = c.table_size-size in
    ((tells_few T).2, omega (arith, size.ensures, has_room size.result (length c.args.output.now) (search rules)))

pub overflow_cast-result : goal.overflow_cast-result
overflow_cast-result c =
    let T = c.args.o.tells in
    omega (arith, few_bytes T c.table_size-size.ensures)

pub returns : goal.returns
returns c =
    let T = c.args.o.tells in
    let rise = c.records_rise-rising.ensures in
    let size = c.table_size-size.ensures in
    says_5 T _ rise (search rules) size (search rules) c.write_table.ensures
