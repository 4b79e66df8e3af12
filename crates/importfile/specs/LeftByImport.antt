-- What the import of a table into a file tells, and what stands in the output after it.
use Rattle.std.specs.Prelude.{ℕ, List, length, None}
use Rattle.model.specs.Answers.{Five}
use Rattle.model.specs.Calls.{Leaves}
use Rattle.model.specs.declared.record.Record.{Record}
use Rattle.model.specs.Model.{Run}
use Rattle.model.specs.File.{bytes}
use Rattle.exchange.specs.Import.{imported, import_if, import_table}

-- what is told and what is written are those of the import
abbrev pub Imports : List ℕ → List ℕ → List ℕ → Five → List ℕ → Type 0
Imports b T output f after = Leaves (import_table b T (length output)) output f after

-- the same of a run and the records of the lines, all of which are taken
abbrev pub ImportsOf : Run → List Record → List ℕ → Five → List ℕ → Type 0
ImportsOf ρ xs output f after = Leaves (import_if None (bytes (imported ρ xs)) (length output)) output f after
