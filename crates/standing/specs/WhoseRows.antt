-- Whose jobs stand in the rows of a table.
use Rattle.std.specs.Prelude.{ℕ, ◌+◌, ◌<◌, ◌≡◌, List, length}
use Rattle.model.specs.declared.task.Task.{Task}
use Rattle.model.specs.Model.{Run, WithinLimits, job_of, rec}
use Rattle.model.specs.Rules.{Jobs}
use Rattle.openfile.specs.Head.{Leads}

-- the records from a place on are those of the first jobs of task i
pub record OfTask (σ : Run) (i at count : ℕ) : Type 0 where
  pub each : (j : ℕ) → j < count → job_of (rec σ (at + j)) ≡ (i, j)

-- a run of the first n tasks of a list to a horizon that obeys rule 1, with m records
pub record OfTasks (l : List Task) (n H m : ℕ) (σ : Run) : Type 0 where
  pub limits : WithinLimits σ
  pub jobs : Jobs σ
  pub tasks : Leads σ l
  pub task_total : n ≡ length σ.tasks
  pub horizon : σ.setting.horizon ≡ H
  pub count : m ≡ length σ.records
