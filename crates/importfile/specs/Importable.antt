-- What is asked for to write an import: a file that tells a run, the records of lines that are taken, and room for the file. And records by
-- their numbers in an order.
use Rattle.std.specs.Prelude.{ℕ, ◌+◌, ◌*◌, ◌≤◌, ◌<◌, ◌≡◌, List, map, length, get_or}
use Rattle.model.specs.declared.record.Record.{Record}
use Rattle.base.specs.Columns.{Columns}
use Rattle.model.specs.Model.{Run, no_record, most_records}
use Rattle.model.specs.File.{size_of}
use Rattle.openfile.specs.declared.head.Head.{Head}
use Rattle.openfile.specs.Head.{Tells}
use Rattle.exchange.specs.TextTable.{Taken}

pub record Importable (b : List ℕ) (h : Head) (xs : List Record) (room : ℕ) (ρ : Run) : Type 0 where
  pub tells : Tells b h ρ
  pub taken : Taken xs
  pub fits : size_of h.tasks (length xs) ≤ room

-- the key of record k: its task, then its job
abbrev pub key_in : List Record → ℕ → ℕ
key_in xs k = (get_or xs k no_record).task * 4294967296 + (get_or xs k no_record).job

-- an order and other columns beside it, a number of each for each record
abbrev pub ColumnsOf : List Record → List ℕ → List (List ℕ) → Type 0
ColumnsOf xs order cs = Columns most_records order cs × (length order ≡ length xs)

-- each number of an order is that of a record
abbrev pub NumbersOf : List Record → List ℕ → Type 0
NumbersOf xs order = (k : ℕ) → k < length order → get_or order k 0 < length xs

-- the records of an order
abbrev pub in_order : List Record → List ℕ → List Record
in_order xs order = map (λ k. get_or xs k no_record) order
