-- What the tasks of a run give each of its records: from when on and until when it may be released, how long it may last, when it is due,
-- its rank; and when it is ready, which the record before has a part in.
use Rattle.std.specs.Prelude.{ℕ, ◌≤◌, get_or, ◌≡◌, List}
use Rattle.model.specs.declared.task.Task.{Task}
use Rattle.model.specs.Model.{Run}
use Rattle.model.specs.Rules.{Jobs}
use Rattle.openfile.specs.Head.{Leads}
use Rattle.table.specs.Table.{Lent}
use Rattle.times.specs.declared.Stage.{Stage}
use Rattle.times.specs.declared.Stage.TheVariants.{Release, Length, Order}

-- from which column on, and up to which, a stage fills in: what rule 2 asks for, what rule 4 does, and the rest
abbrev pub begins : Stage → ℕ
begins Release = 6
begins Length = 8
begins Order = 10

abbrev pub up_to : Stage → ℕ
up_to Release = 8
up_to Length = 10
up_to Order = 13

-- the entries of a list from a place on are those of another
pub record KeptFrom (from : ℕ) (t t' : List ℕ) : Type 0 where
  pub kept : (p : ℕ) → from ≤ p → get_or t' p 0 ≡ get_or t p 0

-- The table of a run that obeys rule 1, with its first m columns, and a list that begins with its tasks.
pub record Listed (σ : Run) (list : List Task) (m : ℕ) (t : List ℕ) (n : ℕ) : Type 0 where
  pub tasks : Leads σ list
  pub jobs : Jobs σ
  pub table : Lent m σ t n
