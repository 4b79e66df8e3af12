-- The header, and as long as the lines of the records. Assumes nothing.
use Rattle.std.proofs.Common.{rules, ◌≡◌, ◌<◌, ◌^◌, arith}
use Rattle.std.specs.List.{sum_by, range_with_len}
use Rattle.std.proofs.lemmas.Iterator.{YieldsList-from_map, YieldsList-from_range}
use Rattle.std.proofs.lemmas.Iterator.Consumers.{sum_by_from_yields_List, fits_by_from_yields_list}
use borrow.Author.Tests.{tests}
use Rattle.exportfile.proofs.LineBytes.{line_long, lines_long, lines_few}
use Rattle.exportfile.proofs.lines.table_size.Goals as goal
use Rattle.exportfile.proofs.lines.table_size.Goals.{After-sum}

pub sum-requires-clause-fits : goal.sum-requires-clause-fits
sum-requires-clause-fits c =
    let a = c.args in
    let line = line_long a.o.file.now a.o.head.records_at in
    let few : sum_by line (range_with_len 0 a.o.head.records) < 2 ^ 64 = omega (arith, lines_few a.o.file.now a.o.head.records_at a.o.head.records) in
    fits_by_from_yields_list line (range_with_len 0 a.o.head.records) c.map.result _
    (YieldsList-from_map _ line (YieldsList-from_range 0 a.o.head.records a.o.head.records c.map.ensures.source (omega arith)) c.map.ensures.closure (λ x r q k. search (rules, tests))) few

lines_told : (c : After-sum) → c.sum.result ≡ sum_by (line_long c.args.o.file.now c.args.o.head.records_at) (range_with_len 0 c.args.o.head.records)
lines_told c =
    let a = c.args in
    let line = line_long a.o.file.now a.o.head.records_at in
    sum_by_from_yields_List line (range_with_len 0 a.o.head.records) c.map.result _ c.sum.ensures.ran
    (YieldsList-from_map _ line (YieldsList-from_range 0 a.o.head.records a.o.head.records c.map.ensures.source (omega arith)) c.map.ensures.closure (λ x r q k. search (rules, tests)))

pub overflow_add-result : goal.overflow_add-result
overflow_add-result c = omega (arith, lines_told c, lines_few c.args.o.file.now c.args.o.head.records_at c.args.o.head.records)

pub returns : goal.returns
returns c = omega (arith, lines_told c, lines_long c.args.o.file.now c.args.o.head.records_at c.args.o.head.records)
