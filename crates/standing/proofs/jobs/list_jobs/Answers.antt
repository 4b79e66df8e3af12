-- A turn puts the jobs of the next task into their rows. Assumes nothing.
use borrow.Author.Rules.{rules}
use Rattle.standing.proofs.JobRows.{listing_none, fitting, listing_on}
use Rattle.standing.proofs.jobs.list_jobs.Goals as goal

pub loop-i-init : goal.loop-i-init
loop-i-init c = let (S, (σ, J)) = c.requires in listing_none S J

pub list_task-requires : goal.list_task-requires
list_task-requires c = let l = fitting c.loop-i.invariant c.loop-i-test.true c.jobs-count.ensures in search rules

pub overflow_add-at : goal.overflow_add-at
overflow_add-at c = let l = fitting c.loop-i.invariant c.loop-i-test.true c.jobs-count.ensures in search rules

pub loop-i-preserved : goal.loop-i-preserved
loop-i-preserved c =
    listing_on c.loop-i.invariant c.loop-i-test.true c.jobs-count.ensures c.list_task.auto.t c.list_task.ensures
