-- Document 02, request 1: what is read of a table. Each line is judged in turn before the next line is read.
use Rattle.std.specs.Prelude.{ℕ, zero, suc, ◌+◌, ◌<◌, ◌≤◌, ◌≡◌, Bool, true, false, List, [], ◌∷◌, ◌++◌, length, get_or, None, Option, Some}
use Rattle.base.specs.Find.{first, found}
use Rattle.model.specs.declared.record.Record.{Record}
use Rattle.model.specs.Model.{Job, job_of, most_records, no_record, same_job}
use Rattle.model.specs.File.{RecordFits}
use Rattle.sorting.specs.Sorted.{Each, Rises}
use Rattle.exchange.specs.RecordLine.{header, table_of, LineFirst}
use Rattle.exchange.specs.LineIn.{line_in, after}

-- In words.
-- ---------

-- lines that are taken: at most 512, of numbers below 2^32, no two of one task and job
pub record Taken (xs : List Record) : Type 0 where
  pub few : length xs ≤ most_records
  pub fit : Each RecordFits xs
  pub apart : Rises (λ x y. ¬ (job_of x ≡ job_of y)) xs

-- this task and job is already given by an earlier line
abbrev pub Given : Job → List Record → Type 0
Given q xs = (k : ℕ) × (k < length xs) × (job_of (get_or xs k no_record) ≡ q)

-- line 1 is the header; the line after those of some records is two further on than they are many
abbrev pub line_number : List Record → ℕ
line_number xs = length xs + 2

-- What a table is refused with, and at which line. A line is bad if it isn't the header (line 1) or six numbers below 2^32 so written, or
-- lacks its line feed; a table without any byte has a bad line 1. 12 a bad line; 7 a 513th record line; 13 a task and job already given by
-- an earlier line.
pub data RefusesAt (T : List ℕ) : ℕ → ℕ → Type 0 where
  no_header : ((rest : List ℕ) → ¬ (T ≡ header ++ rest)) → RefusesAt T 12 1
  bad_line : (xs : List Record) (c : ℕ) (l : List ℕ) → Taken xs → T ≡ table_of xs ++ (c ∷ l)
      → ((x : Record) (rest : List ℕ) → ¬ LineFirst (c ∷ l) x rest) → RefusesAt T 12 (line_number xs)
  too_many : (xs : List Record) (x : Record) (l rest : List ℕ) → Taken xs → T ≡ table_of xs ++ l → LineFirst l x rest
      → length xs ≡ most_records → RefusesAt T 7 0
  given_before : (xs : List Record) (x : Record) (l rest : List ℕ) → Taken xs → T ≡ table_of xs ++ l → LineFirst l x rest
      → length xs < most_records → Given (job_of x) xs → RefusesAt T 13 (line_number xs)

-- The same computed.
-- ------------------

-- the records of the lines, up to the end of the table or to the first line that is refused; and that refusal, by its number and line
pub record TableRead : Type 0 where
  pub records : List Record
  pub fault : Option (ℕ × ℕ)

abbrev pub all_taken : List Record → TableRead
all_taken xs = record { records = xs; fault = None }

abbrev pub stops_at : ℕ → ℕ → List Record → TableRead
stops_at ν line xs = record { records = xs; fault = Some (ν, line) }

unfoldable pub given : Job → List Record → Bool
given q xs = found (first (λ k. same_job (job_of (get_or xs k no_record)) q) 0 (length xs))

-- the lines of a text, where the records xs were taken before them and n more may be
unfoldable pub lines_from : ℕ → List Record → List ℕ → TableRead
lines_from zero xs [] = all_taken xs
lines_from zero xs (c ∷ l) = elim (line_in (c ∷ l)) [ None ↦ stops_at 12 (line_number xs) xs | Some p ↦ stops_at 7 0 xs ]
lines_from (suc n) xs [] = all_taken xs
lines_from (suc n) xs (c ∷ l) =
    elim (line_in (c ∷ l)) [
      | None ↦ stops_at 12 (line_number xs) xs
      | Some p ↦
          elim (given (job_of p.0) xs) [ true ↦ stops_at 13 (line_number xs) xs | false ↦ lines_from n (xs ++ (p.0 ∷ [])) p.1 ]
    ]

unfoldable pub table_read : List ℕ → TableRead
table_read T = elim (after header T) [ None ↦ stops_at 12 1 [] | Some l ↦ lines_from most_records [] l ]
