-- A turn puts the next job into its row. Assumes nothing.
use borrow.Author.Rules.{rules}
use Rattle.standing.proofs.JobRows.{tasked_on}
use Rattle.standing.proofs.jobs.list_task.Goals as goal

pub loop-j-preserved : goal.loop-j-preserved
loop-j-preserved c = tasked_on c.loop-j.invariant (search rules) (search rules) c.put_row.ensures
