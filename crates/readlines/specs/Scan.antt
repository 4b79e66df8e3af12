-- What is read of a table by the code: a line at a place, the rest behind the header, the records that are taken.
use Rattle.std.specs.Prelude.{ℕ, ◌+◌, ◌*◌, ◌%◌, ◌<◌, ◌≤◌, ◌≡◌, Bool, true, false, List, ◌++◌, length, drop, None, Option, Some, Result, Ok, Err}
use Rattle.model.specs.declared.record.Record.{Record}
use Rattle.model.specs.declared.refusal.Refusal.{Refusal}
use Rattle.model.specs.Answers.{numbered}
use Rattle.model.specs.Model.{Job}
use Rattle.exchange.specs.RecordLine.{header, LineFirst}
use Rattle.exchange.specs.TextTable.{TableRead, table_read}

-- what is read at a place of a text: a record, and the place after its line; or that no line of a record stands there
abbrev pub SaysLine : List ℕ → ℕ → Option (Record × ℕ) → Type 0
SaysLine s at (Some (x, next)) = (at < next) × (next ≤ length s) × LineFirst (drop at s) x (drop next s)
SaysLine s at None = (x : Record) (rest : List ℕ) → ¬ LineFirst (drop at s) x rest

-- the rest behind a header, if there is one
abbrev pub rest_if : Bool → List ℕ → Option (List ℕ)
rest_if true T = Some (drop (length header) T)
rest_if false T = None

-- what is said of a table: the refusal and its line, or how many records there are
abbrev pub scanned_by : Option (ℕ × ℕ) → List Record → Result ℕ (ℕ × ℕ)
scanned_by None xs = Ok (length xs)
scanned_by (Some p) xs = Err p

unfoldable pub scanned_of : TableRead → Result ℕ (ℕ × ℕ)
scanned_of r = scanned_by r.fault r.records

-- records at the front of a slice; those after them never change
abbrev pub laid : List Record → List Record → List Record
laid xs slice = xs ++ drop (length xs) slice

-- what a reading of a table says, and leaves of the rows: the records that were taken, and after them what stood there before
abbrev pub Scans : List ℕ → List Record → Result ℕ Refusal → List Record → Type 0
Scans T before r rows = (numbered r ≡ scanned_of (table_read T)) × (rows ≡ laid (table_read T).records before)

-- where a job leaves its mark, one of so many places
abbrev pub slots : ℕ
slots = 4096

unfoldable pub slot_of : Job → ℕ
slot_of q = (q.0 * 509 + q.1) % slots
