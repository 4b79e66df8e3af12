-- What is asked for to read one number of each record: a file that has them, and a slice that has room for them.
use Rattle.std.specs.Prelude.{ℕ, ◌+◌, ◌*◌, ◌≤◌, List, length}
use Rattle.model.specs.File.{record_size, longest_file}
use Rattle.model.specs.Model.{most_records}

-- n records of a file, of each the number that stands at a place of the first, and room for n numbers from another place on. The last number
-- ends within the file; what stands after it in its record, at most 20 bytes, need not.
pub record HasColumn (b : List ℕ) (at n : ℕ) (t : List ℕ) (from : ℕ) : Type 0 where
  pub place : at ≤ longest_file
  pub few : n ≤ most_records
  pub there : at + record_size * n ≤ length b + 20
  pub room : from + n ≤ length t
