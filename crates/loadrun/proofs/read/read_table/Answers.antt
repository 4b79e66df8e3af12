use mathlib.Core.Path.{◌≡◌}
use native.Mathlib.Omega.{arith}
use Rattle.openfile.proofs.WholeOrRefused.{tells_place, tells_size, tells_few}
use Rattle.table.specs.Table.{columns, recorded}
use Rattle.table.proofs.ColumnsApart.{column_within}
use Rattle.loadrun.proofs.RecordNumbers.{read_none, read_on}
use Rattle.loadrun.proofs.read.read_table.Goals as goal

pub loop-j-init : goal.loop-j-init
loop-j-init c = read_none c.args.o.tells _ c.requires.long

pub read_column-requires : goal.read_column-requires
read_column-requires c =
    let T = c.args.o.tells in
    let few = tells_few T in
    record {
      place = omega (arith, tells_place T);
      few = omega arith;
      there = omega (arith, tells_place T, tells_size T);
      room = omega (arith, column_within columns c.loop-j.j c.args.o.head.records (omega arith));
    }

pub loop-j-preserved : goal.loop-j-preserved
loop-j-preserved c = read_on c.args.o.tells c.loop-j.j c.loop-j-test.true c.loop-j.invariant c.read_column.ensures

pub returns : goal.returns
returns c =
    let e : c.loop-j.j ≡ recorded = omega arith in
    rw e at c.loop-j.invariant
