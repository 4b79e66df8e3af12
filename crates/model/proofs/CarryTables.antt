-- Document 01, "Carrying a run to H'": what a carry says and writes where its rules leave no choice. Two tables, each under a single
-- statement. Assumes nothing.
use Rattle.std.specs.Prelude.{Option, Some}
use Prim.Native.Nat.{ℕ}
use mathlib.Core.Path.{◌≡◌, refl}
use mathlib.Core.List.{List, [], ◌∷◌, map}
use Rattle.model.specs.Model.{Run, Job}
use Rattle.model.specs.Answers.{five, Outcome}
use Rattle.model.specs.Carry.{unbegun, next}
use Rattle.model.proofs.Worked.{Call, carries, outcome, computed_carry, file, told, wrote}

-- N cores and a horizon, two tasks alike: P 10, B 1, W 1, O 1, J 0. Their jobs 0 exist from H = 2 on and are due together.
abbrev alike : ℕ → ℕ → List ℕ → List ℕ
alike N H records = file N H (2 ∷ 10 ∷ 1 ∷ 1 ∷ 1 ∷ 0 ∷ 10 ∷ 1 ∷ 1 ∷ 1 ∷ 0 ∷ []) records

-- Two cores, H = 5, one task: P 10, B 1, W 2, O 0, J 9. Its job 0, with this release, start, end and core.
abbrev by5 : ℕ → ℕ → ℕ → ℕ → List ℕ
by5 r s e core = file 2 5 (1 ∷ 10 ∷ 1 ∷ 2 ∷ 0 ∷ 9 ∷ []) (1 ∷ 0 ∷ 0 ∷ r ∷ s ∷ e ∷ core ∷ [])

-- One core and a horizon, one task of this period: B 1, W 1, O 0, J 0. Its job 0, from 0 to 1.
abbrev every : ℕ → ℕ → List ℕ
every P H = file 1 H (1 ∷ P ∷ 1 ∷ 1 ∷ 0 ∷ 0 ∷ []) (1 ∷ 0 ∷ 0 ∷ 0 ∷ 0 ∷ 1 ∷ 1 ∷ [])

-- The same with period 1 and H 1, and a record that breaks rules 1 to 5.
abbrev lawless : List ℕ
lawless = file 1 1 (1 ∷ 1 ∷ 1 ∷ 1 ∷ 0 ∷ 0 ∷ []) (1 ∷ 1 ∷ 1 ∷ 3 ∷ 2 ∷ 1 ∷ 9 ∷ [])

abbrev pub table : List (Call × Outcome)
table =
    -- of two that are due together the lower task starts first, and on the lower core
    (carries (alike 1 1 (0 ∷ [])) 2 12948, wrote 108 (alike 1 2 (2 ∷ 0 ∷ 0 ∷ 1 ∷ 1 ∷ 2 ∷ 1 ∷ 1 ∷ 0 ∷ 1 ∷ 2 ∷ 3 ∷ 1 ∷ [])))
    ∷ (carries (alike 2 1 (0 ∷ [])) 2 12948, wrote 108 (alike 2 2 (2 ∷ 0 ∷ 0 ∷ 1 ∷ 1 ∷ 2 ∷ 1 ∷ 1 ∷ 0 ∷ 1 ∷ 1 ∷ 2 ∷ 2 ∷ [])))
    -- H' = H: what starts at H or later takes the lowest free core and runs for W; what starts before H is kept
    ∷ (carries (by5 5 5 6 2) 5 12948, wrote 64 (by5 5 5 7 1))
    ∷ (carries (by5 6 6 7 2) 5 12948, wrote 64 (by5 6 6 8 1))
    ∷ (carries (by5 4 4 5 2) 5 12948, wrote 64 (by5 4 4 5 2))
    -- H' from H to 1,000,000
    ∷ (carries (every 1 1) 0 12948, told (five 4 9 0 0 0))
    ∷ (carries (every 1 1) 1 12948, wrote 64 (every 1 1))
    ∷ (carries (every 1000000 999999) 1000000 12948, wrote 64 (every 1000000 1000000))
    ∷ (carries (every 1000000 999999) 1000001 12948, told (five 4 9 0 0 0))
    -- 512 jobs at H', and 513
    ∷ (carries lawless 512 12948, told (five 4 10 0 0 0))
    ∷ (carries lawless 513 12948, told (five 4 6 0 0 0))
    -- room for all 64 bytes, and for one less
    ∷ (carries (every 1 1) 1 64, wrote 64 (every 1 1))
    ∷ (carries (every 1 1) 1 63, told (five 4 11 0 0 0))
    -- the file's own refusals, and then 9, 6, 10, 11: the first of those that hold
    ∷ (carries [] 0 0, told (five 4 1 0 0 0))
    ∷ (carries lawless 1000001 0, told (five 4 9 0 0 0))
    ∷ (carries lawless 513 0, told (five 4 6 0 0 0))
    ∷ (carries lawless 1 0, told (five 4 10 0 0 0))
    ∷ []

pub carries_said : map (λ row. outcome row.0) table ≡ map (λ row. row.1) table
unfolding computed_carry
carries_said = refl

-- Jobs of one task are never due together in a file that is not refused, so that here are runs of no file: with no task, whose times
-- are then 0, and these jobs, all released at 0 and not begun.
abbrev unbegun_all : List Job → Run
unbegun_all qs = record { setting = record { cores = 1; horizon = 1 }; tasks = []; records = map (λ q. unbegun q 0) qs }

-- the jobs, and the place of the one that starts
abbrev pub tied : List (List Job × Option ℕ)
tied =
    -- the lower task, though its job is higher
    ((7, 0) ∷ (5, 1) ∷ (6, 0) ∷ [], Some 1)
    -- of one task the lower job, where none of them precedes another
    ∷ ((5, 5) ∷ (5, 1) ∷ (5, 3) ∷ [], Some 1)
    ∷ []

pub ties_decided : map (λ row. next (unbegun_all row.0) 0) tied ≡ map (λ row. row.1) tied
unfolding computed_carry
ties_decided = refl
