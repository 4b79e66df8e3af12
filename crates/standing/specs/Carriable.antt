-- What is asked for to open a carry: the file of a run that obeys rule 1, its tasks in a list, and how many jobs exist at H'.
use Rattle.std.specs.Prelude.{ℕ, ◌≡◌, List, length}
use Rattle.model.specs.declared.task.Task.{Task}
use Rattle.carrytheory.specs.Allowed.{Allowed}
use Rattle.model.specs.Model.{Run, existing}
use Rattle.model.specs.Rules.{Jobs}
use Rattle.openfile.specs.declared.head.Head.{Head}
use Rattle.openfile.specs.Head.{Tells, Leads, run_in}
use Rattle.model.specs.Carry.{opening}
use Rattle.table.specs.Table.{Lent, columns}

pub record Carriable (b : List ℕ) (h : Head) (l : List Task) (H' m : ℕ) (ρ : Run) : Type 0 where
  pub tells : Tells b h ρ
  pub tasks : Leads ρ l
  pub jobs : Jobs ρ
  pub allowed : Allowed ρ H'
  pub count : m ≡ length (existing ρ H')

-- the table of what stands at H of the run that a file tells, for the m jobs that exist at H'
abbrev pub OpensTable : List ℕ → ℕ → ℕ → List ℕ → Type 0
OpensTable b H' m t = Lent columns (opening (run_in b) H') t m
