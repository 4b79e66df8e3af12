-- What export makes of the records of a file that begin at a place, and what it tells and writes.
use Rattle.std.specs.Prelude.{ℕ, ◌+◌, ◌*◌, ◌-◌, Bool, not, List, map, length}
use Rattle.base.specs.Find.{first, found}
use Rattle.model.specs.declared.record.Record.{Record}
use Rattle.model.specs.File.{joined, entries, record_at, record_size}
use Rattle.model.specs.Answers.{Five}
use Rattle.model.specs.Calls.{Leaves}
use Rattle.sorting.specs.Sorted.{by_key}
use Rattle.exchange.specs.RecordLine.{record_line, table_of}
use Rattle.exchange.specs.Import.{job_before}
use Rattle.exchange.specs.Export.{export_file}

module _ (b : List ℕ) (at : ℕ) where
  -- record k of those that begin at a place, and the first n of them
  abbrev pub record_of : ℕ → Record
  record_of k = record_at b (at + record_size * k)

  abbrev pub records_at : ℕ → List Record
  records_at n = entries (record_at b) record_size at n

  -- the lines of some of them in an order, and their table
  abbrev pub lines_by : List ℕ → List ℕ
  lines_by order = joined record_line (map record_of order)

  abbrev pub table_by : List ℕ → List ℕ
  table_by order = table_of (map record_of order)

  -- when they start, and the numbers of the first n by start, then by place
  abbrev pub start_of : ℕ → ℕ
  start_of k = (record_of k).start

  unfoldable pub start_order : ℕ → List ℕ
  start_order n = by_key (map (λ x. x.start) (records_at n)) n

  -- whether record k does not go before the next, and whether each of the first n does
  unfoldable pub stays : ℕ → Bool
  stays k = not (job_before (record_of k) (record_of (k + 1)))

  unfoldable pub rises_at : ℕ → Bool
  rises_at n = not (found (first stays 0 (n - 1)))

-- what is told and what is written are those of the export
abbrev pub Exports : List ℕ → List ℕ → Five → List ℕ → Type 0
Exports b output f after = Leaves (export_file b (length output)) output f after
