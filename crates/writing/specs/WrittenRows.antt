-- A slice with numbers from a place on, and the numbers of rows.
use Rattle.std.specs.Prelude.{ℕ, zero, suc, ◌+◌, ◌*◌, ◌≡◌, List, [], ◌∷◌, ◌++◌, length, get_or}
use Rattle.model.specs.declared.record.Record.{Record}
use Rattle.model.specs.declared.task.Task.{Task}
use Rattle.model.specs.File.{task_numbers, record_numbers}
use Rattle.model.specs.Model.{task}
use Rattle.wire.specs.Put.{put}

-- numbers put one after the other
unfoldable pub puts : List ℕ → ℕ → List ℕ → List ℕ
puts s i [] = s
puts s i (v ∷ vs) = puts (put s i v) (i + 4) vs

-- the slice s became t: numbers were put from a place on, up to another place
pub record Wrote (s : List ℕ) (i : ℕ) (vs t : List ℕ) (j : ℕ) : Type 0 where
  pub place : j ≡ i + 4 * length vs
  pub slice : t ≡ puts s i vs
  pub long : length t ≡ length s

-- the numbers of the first n rows
unfoldable pub rows : (ℕ → List ℕ) → ℕ → List ℕ
rows row zero = []
rows row (suc n) = rows row n ++ row n

-- record k of a table for n records
abbrev pub record_in : List ℕ → ℕ → ℕ → Record
record_in t n k =
    record {
      task = get_or t (0 * n + k) 0;
      job = get_or t (1 * n + k) 0;
      release = get_or t (2 * n + k) 0;
      start = get_or t (3 * n + k) 0;
      end = get_or t (4 * n + k) 0;
      core = get_or t (5 * n + k) 0;
    }

-- task i of a list, and record k of a table, as rows
unfoldable pub task_row : List Task → ℕ → List ℕ
task_row l i = task_numbers (task l i)

unfoldable pub record_row : List ℕ → ℕ → ℕ → List ℕ
record_row t n k = record_numbers (record_in t n k)
