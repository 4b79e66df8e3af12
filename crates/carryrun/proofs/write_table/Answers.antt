-- What stands at H, all starts, the file. Assumes nothing.
use borrow.Author.Rules.{rules}
use Rattle.carryrun.proofs.Handed.{opened, tabled}
use Rattle.carryrun.proofs.write_table.Goals as goal

pub open_table-requires : goal.open_table-requires
open_table-requires c = let (s, W) = c.requires in (s, W.carriable)

pub start_all-requires : goal.start_all-requires
start_all-requires c = (_, _, opened c.requires.1 c.open_table.ensures)

pub write_run-requires : goal.write_run-requires
write_run-requires c =
    let W = c.requires.1 in
    (search rules, (_, tabled W (c.start_all.ensures _ _ (opened W c.open_table.ensures))))

pub returns : goal.returns
returns c =
    let W = c.requires.1 in
    c.write_run.ensures _ (tabled W (c.start_all.ensures _ _ (opened W c.open_table.ensures)))
