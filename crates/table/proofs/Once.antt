-- Two results that a contract permits are the same: of the functions of this crate. Of a column, where it lies and its numbers. Assumes nothing.
use mathlib.Core.Path.{sym, ◌∙◌}
use Rattle.base.proofs.Once.{Once, ◌also◌, both}
use Rattle.table.specs.Table.{columns}
use Rattle.table.proofs.OneRow.{put_same}
use Rattle.table.proofs.column.Reads as column
use Rattle.table.proofs.put_row.Reads as put_row

pub column_once : Once column.Pre column.Post (λ r exit. r.ref_ptr also r.now)
column_once κs args _ r r' exit exit' (p, _, a) (q, _, b) = both (λ κ. ((a.block ∙ sym b.block) κ, (a.place ∙ sym b.place) κ)) (p ∙ sym q)

pub put_row_once : Once put_row.Pre put_row.Post (λ r exit. exit.0.now)
put_row_once κs args h r r' exit exit' p q = put_same columns h.1 h.0.long p q
