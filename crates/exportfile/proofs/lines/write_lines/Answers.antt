-- The header, and then the lines so far. Assumes nothing.
use mathlib.Core.Path.{◌≡◌, refl, ap}
use mathlib.Core.List.{map}
use native.Mathlib.Omega.{arith}
use lib.ListN.{length}
use Rattle.exchange.specs.RecordLine.{record_line}
use Rattle.exchange.proofs.LineLaws.{length-header}
use Rattle.text.proofs.Paste.{wrote_none}
use Rattle.exportfile.specs.LinesOf.{record_of}
use Rattle.exportfile.proofs.LineBytes.{table_size, line_fits, wrote_line_on, wrote_table}
use Rattle.exportfile.proofs.lines.write_lines.Goals as goal

pub put_bytes-next-requires : goal.put_bytes-next-requires
put_bytes-next-requires c =
    let a = c.args in
    let size = table_size (map (record_of a.o.file.now a.o.head.records_at) a.order.now) in
    omega (arith, ap length c.header_line-header.ensures, length-header, size)

pub loop-k-init : goal.loop-k-init
loop-k-init c = wrote_none _ refl

-- there is room for one line more
pub put_record-next-requires : goal.put_record-next-requires
put_record-next-requires c =
    let a = c.args in
    let loop = c.loop-k in
    let line = ap (λ x. length (record_line x)) c.record_at.ensures in
    let head = rw c.header_line-header.ensures at c.put_bytes-next.ensures in
    omega (arith, loop.invariant, head, length-header, line, line_fits a.o.file.now a.o.head.records_at a.order.now loop.k-index (omega arith))

pub loop-k-preserved : goal.loop-k-preserved
loop-k-preserved c =
    let a = c.args in
    let loop = c.loop-k in
    let read = c.record_at.ensures in
    let line = ap (λ x. length (record_line x)) read in
    let head = rw c.header_line-header.ensures at c.put_bytes-next.ensures in
    let fits = line_fits a.o.file.now a.o.head.records_at a.order.now loop.k-index (omega arith) in
    wrote_line_on a.o.file.now a.o.head.records_at a.order.now loop.k-index (omega arith) loop.invariant c.put_record-next.ensures read
    (omega (arith, loop.invariant, head, length-header, line, fits))

pub returns : goal.returns
returns c =
    let a = c.args in
    let head = rw c.header_line-header.ensures at c.put_bytes-next.ensures in
    let e : c.loop-k.k-index ≡ length a.order.now = omega arith in
    wrote_table a.o.file.now a.o.head.records_at a.order.now head (rw e at c.loop-k.invariant) c.requires
