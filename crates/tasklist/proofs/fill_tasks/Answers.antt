-- A turn stores the next task of the file after those that stand. Assumes nothing.
use Rattle.std.proofs.Common.{◌<◌, length, ◌∙◌, sym, ap, arith, add-one}
use lib.ListN.{set}
use Rattle.tasklist.proofs.StoredInTurn.{stored, stored_on}
use Rattle.tasklist.proofs.fill_tasks.Goals as goal

pub loop-i-preserved : goal.loop-i-preserved
loop-i-preserved c = record {
  within = omega arith;
  list =
      let b = c.args.file.now in
      let l = c.args.list.now in
      let i = c.loop-i.i in
      let small : i < length l = omega arith in
      (λ κ. set (c.loop-i.invariant.list κ) i (c.task_at.ensures κ)) ∙ stored_on b l i small ∙ sym (ap (stored b l) (add-one i));
}
