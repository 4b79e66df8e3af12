-- Document 01: "The file is judged from the front and the first fault met is the answer." Files cut off, and files with several faults;
-- one table under a single statement. Assumes nothing.
use Prim.Native.Nat.{ℕ}
use mathlib.Core.Path.{◌≡◌, refl}
use mathlib.Core.List.{List, [], ◌∷◌, ◌++◌, map}
use lib.ListN.{take}
use Rattle.model.specs.File.{bytes_of}
use Rattle.model.specs.Answers.{Five, five}
use Rattle.model.specs.Compute.Verdict.{check}
use Rattle.model.proofs.Worked.{computed}

-- A file of 40 bytes that is not refused: count 2, N 1, H 1; count 1, P 1, B 1, W 1, O 1, J 0; count 0.
abbrev fine : List ℕ
fine = bytes_of (2 ∷ 1 ∷ 1 ∷ 1 ∷ 1 ∷ 1 ∷ 1 ∷ 1 ∷ 0 ∷ 0 ∷ [])

-- A good setting and these numbers after it; a good setting with H 513, one task with 513 jobs, and these numbers after it.
abbrev after_setting : List ℕ → List ℕ
after_setting vs = bytes_of (2 ∷ 1 ∷ 1 ∷ vs)

abbrev after_jobs : List ℕ → List ℕ
after_jobs vs = bytes_of (2 ∷ 1 ∷ 513 ∷ 1 ∷ 1 ∷ 1 ∷ 1 ∷ 0 ∷ 0 ∷ vs)

abbrev pub table : List (List ℕ × Five)
table =
    -- cut off inside each count and each section, and at its end
    (take 3 fine, five 4 1 0 0 0)
    ∷ (take 4 fine, five 4 1 0 0 0)
    ∷ (take 11 fine, five 4 1 0 0 0)
    ∷ (take 12 fine, five 4 1 0 0 0)
    ∷ (take 15 fine, five 4 1 0 0 0)
    ∷ (take 16 fine, five 4 1 0 0 0)
    ∷ (take 35 fine, five 4 1 0 0 0)
    ∷ (take 36 fine, five 4 1 0 0 0)
    ∷ (take 39 fine, five 4 1 0 0 0)
    ∷ (fine, five 0 0 0 0 0)
    -- one byte more
    ∷ (fine ++ (0 ∷ []), five 4 8 0 0 0)
    -- a count is judged once its four bytes are there, before its entries
    ∷ (3 ∷ 0 ∷ 0 ∷ [], five 4 1 0 0 0)
    ∷ (bytes_of (3 ∷ []), five 4 2 0 0 0)
    ∷ (after_setting (33 ∷ []), five 4 4 0 0 0)
    ∷ (after_setting (1 ∷ 1 ∷ 1 ∷ 1 ∷ 1 ∷ 0 ∷ 513 ∷ []), five 4 7 0 0 0)
    ∷ (after_setting (1 ∷ 1 ∷ 1 ∷ 1 ∷ 1 ∷ 0 ∷ 512 ∷ []), five 4 1 0 0 0)
    -- a section's entries must all be there before any is judged
    ∷ (bytes_of (2 ∷ 0 ∷ []), five 4 1 0 0 0)
    ∷ (bytes_of (2 ∷ 0 ∷ 1 ∷ []), five 4 3 0 0 0)
    ∷ (after_setting (1 ∷ 0 ∷ 1 ∷ 1 ∷ 1 ∷ []), five 4 1 0 0 0)
    ∷ (after_setting (1 ∷ 0 ∷ 1 ∷ 1 ∷ 1 ∷ 0 ∷ []), five 4 5 0 0 0)
    -- 6 comes after all tasks are judged and before the record count is read
    ∷ (bytes_of (2 ∷ 1 ∷ 513 ∷ 2 ∷ 1 ∷ 1 ∷ 1 ∷ 0 ∷ 0 ∷ 0 ∷ 1 ∷ 1 ∷ 0 ∷ 0 ∷ []), five 4 5 1 0 0)
    ∷ (after_jobs [], five 4 6 0 0 0)
    ∷ (after_jobs (513 ∷ []), five 4 6 0 0 0)
    ∷ []

pub first_fault : map (λ row. check row.0) table ≡ map (λ row. row.1) table
unfolding computed
first_fault = refl
