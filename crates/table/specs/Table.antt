-- A run as one table: a column for each number that the rules ask of a record, as long as there are records. Column j begins at place
-- j n of a table for n records.
use Rattle.std.specs.Prelude.{ℕ, ◌+◌, ◌*◌, ◌≤◌, ◌<◌, ◌≡◌, List, [], ◌∷◌, length, get_or, take, drop}
use Rattle.std.specs.Borrow.{Bor}
use Rattle.model.specs.Model.{Run, IsRecord, WithinLimits, most_records, rec, task_of, arrival, due, rank, ready}

module _ (ρ : Run) (k : ℕ) where
  -- from when on, and until when, the job of record k may be released
  unfoldable pub earliest : ℕ
  earliest = arrival (task_of ρ k) (rec ρ k).job

  unfoldable pub latest : ℕ
  latest = arrival (task_of ρ k) (rec ρ k).job + (task_of ρ k).jitter

  -- the six numbers of record k, and what the rules ask of it besides
  abbrev pub row : List ℕ
  row =
      (rec ρ k).task
      ∷ (rec ρ k).job
      ∷ (rec ρ k).release
      ∷ (rec ρ k).start
      ∷ (rec ρ k).end
      ∷ (rec ρ k).core
      ∷ earliest
      ∷ latest
      ∷ (task_of ρ k).least
      ∷ (task_of ρ k).greatest
      ∷ due ρ k
      ∷ rank ρ k
      ∷ ready ρ k
      ∷ []

-- how many columns there are, and how many of them stand in a file
abbrev pub columns : ℕ
columns = 13

abbrev pub recorded : ℕ
recorded = 6

-- what stands of record k in column j
abbrev pub number_at : Run → ℕ → ℕ → ℕ
number_at ρ j k = get_or (row ρ k) j 0

-- a table for n records
pub record Sized (t : List ℕ) (n : ℕ) : Type 0 where
  pub long : length t ≡ columns * n
  pub few : n ≤ most_records

-- column j of a table for n records
abbrev pub column_of : ℕ → List ℕ → ℕ → List ℕ
column_of n t j = take n (drop (j * n) t)

-- The first m columns of a table for n records are those of a run, which is within its limits.
pub record Lent (m : ℕ) (ρ : Run) (t : List ℕ) (n : ℕ) : Type 0 where
  pub limits : WithinLimits ρ
  pub count : n ≡ length ρ.records
  pub sized : Sized t n
  pub number : (j k : ℕ) → j < m → k < n → get_or t (j * n + k) 0 ≡ number_at ρ j k

-- The same after columns were written from the front on: those past them keep their values.
pub record Loads (m : ℕ) (ρ : Run) (n : ℕ) (t t' : List ℕ) : Type 0 where
  pub lent : Lent m ρ t' n
  pub kept : (p : ℕ) → m * n ≤ p → get_or t' p 0 ≡ get_or t p 0

-- Of the columns from m up to M the first r numbers are there, too.
pub record Rows (m M r : ℕ) (ρ : Run) (t : List ℕ) (n : ℕ) : Type 0 where
  pub lent : Lent m ρ t n
  pub rows : (j k : ℕ) → j < M → k < r → get_or t (j * n + k) 0 ≡ number_at ρ j k

-- A table became another: numbers were put into row k from column j on, and every other number stays.
pub record PutRow (n k j : ℕ) (vs t t' : List ℕ) : Type 0 where
  pub long : length t' ≡ length t
  pub here : (i : ℕ) → i < length vs → get_or t' ((j + i) * n + k) 0 ≡ get_or vs i 0
  pub kept : (p : ℕ) → ((i : ℕ) → i < length vs → ¬ (p ≡ (j + i) * n + k)) → get_or t' p 0 ≡ get_or t p 0

-- one number for each record, by its place
pub record ForEach (ρ : Run) (xs : List ℕ) (f : ℕ → ℕ) : Type 0 where
  pub long : length xs ≡ length ρ.records
  pub each : (k : ℕ) → IsRecord ρ k → get_or xs k 0 ≡ f k

-- r lies in the block of t, so many numbers of four bytes on.
pub record LiesAt (r t : Bor (List ℕ)) (from : ℕ) : Type 0 where
  pub block : r.ref_ptr.0 ≡ t.ref_ptr.0
  pub place : r.ref_ptr.1 ≡ from * 4 + t.ref_ptr.1
