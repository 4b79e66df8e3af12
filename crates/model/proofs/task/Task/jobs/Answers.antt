use mathlib.Core.Path.{sym}
use native.Mathlib.Omega.{arith}
use Rattle.model.proofs.Jobs.{no_job, no_period, some_jobs}
use Rattle.model.proofs.task.Task.jobs.Goals as goal
use Rattle.model.proofs.task.Task.jobs.Goals.{then-self-eq0-via-then-self-eq0, then-self-eq0-via-else-self-eq0+then-horizon-self}

pub returns-then-self-eq0 : goal.returns-then-self-eq0
returns-then-self-eq0 c =
    elim c.then-self-eq0.branch [
      | then-self-eq0-via-then-self-eq0 w ↦ sym (no_period _ _ (omega arith))
      | then-self-eq0-via-else-self-eq0+then-horizon-self w ↦ sym (no_job _ _ (omega arith) (omega arith))
    ]

pub returns : goal.returns
returns c = some_jobs _ _ (omega arith) (omega arith)
