-- The run of which a file is written: the cores of a head, a horizon, the tasks of a list, and the records of a table.
use Rattle.std.specs.Prelude.{ℕ, ◌≡◌, List, length}
use Rattle.model.specs.declared.task.Task.{Task}
use Rattle.model.specs.Model.{Run}
use Rattle.openfile.specs.declared.head.Head.{Head}
use Rattle.openfile.specs.Head.{Leads}
use Rattle.table.specs.Table.{Lent, recorded}

pub record Tabled (h : Head) (H : ℕ) (l : List Task) (t : List ℕ) (n : ℕ) (σ : Run) : Type 0 where
  pub setting : σ.setting ≡ record { cores = h.setting.cores; horizon = H }
  pub task_total : h.tasks ≡ length σ.tasks
  pub tasks : Leads σ l
  pub table : Lent recorded σ t n
