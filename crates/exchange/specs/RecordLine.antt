-- Document 02, request 1: the table as it is written, and a line that stands first in a text.
use Rattle.std.specs.Prelude.{◌≡◌, List, [], ◌∷◌, ◌++◌, ℕ}
use Rattle.model.specs.declared.record.Record.{Record}
use Rattle.model.specs.File.{RecordFits, record_numbers, joined}
use Rattle.model.specs.Report.{line_by}

-- the header line `task,job,release,start,end,core`
unfoldable pub header : List ℕ
header =
    -- task,
    116 ∷ 97 ∷ 115 ∷ 107 ∷ 44
    -- job,
    ∷ 106 ∷ 111 ∷ 98 ∷ 44
    -- release,
    ∷ 114 ∷ 101 ∷ 108 ∷ 101 ∷ 97 ∷ 115 ∷ 101 ∷ 44
    -- start,
    ∷ 115 ∷ 116 ∷ 97 ∷ 114 ∷ 116 ∷ 44
    -- end,
    ∷ 101 ∷ 110 ∷ 100 ∷ 44
    -- core, and the line feed
    ∷ 99 ∷ 111 ∷ 114 ∷ 101 ∷ 10
    ∷ []

-- then one line per record, decimal without leading zeros, each line closed by a line feed
unfoldable pub record_line : Record → List ℕ
record_line x = line_by 44 (record_numbers x)

-- the table of some records
abbrev pub table_of : List Record → List ℕ
table_of xs = header ++ joined record_line xs

-- How many bytes the table of 512 records has at most: 32, and 66 for each line, six numbers of ten digits with a byte after each (law
-- `exported_most`).
abbrev pub most_table : ℕ
most_table = 33824

-- Six numbers below 2^32 so written, and their line feed, stand first in a text: it IS the line of a record of such numbers, and the rest.
pub record LineFirst (l : List ℕ) (x : Record) (rest : List ℕ) : Type 0 where
  pub fits : RecordFits x
  pub text : l ≡ record_line x ++ rest
