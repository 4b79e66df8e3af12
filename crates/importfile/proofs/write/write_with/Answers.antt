-- The order, the table, the tasks, the file. Assumes nothing.
use borrow.Author.Rules.{rules}
use Rattle.openfile.proofs.Leading.{leads_front}
use Rattle.importfile.proofs.InOrder.{tabled}
use Rattle.importfile.proofs.write.write_with.Goals as goal

pub write_run-requires : goal.write_run-requires
write_run-requires g c =
    let (few, most, fits, many, I) = c.requires in
    (I.fits, (_, tabled I _ (c.order_rows.ensures.1 _) (search rules) c.lay_out.ensures (leads_front _ c.tasks_of.ensures)))

pub returns : goal.returns
returns g c =
    let (few, most, fits, many, I) = c.requires in
    c.write_run.ensures _ (tabled I _ (c.order_rows.ensures.1 _) (search rules) c.lay_out.ensures (leads_front _ c.tasks_of.ensures))
