-- The records of the run that a file tells, in the first columns of a table.
use Rattle.std.specs.Prelude.{ℕ, List}
use Rattle.openfile.specs.Head.{run_in}
use Rattle.table.specs.Table.{Loads, recorded}

abbrev pub LoadsRecords : List ℕ → ℕ → List ℕ → List ℕ → Type 0
LoadsRecords b n before after = Loads recorded (run_in b) n before after
