-- Each limit of a run file, at its last good value and one beyond: files without a record, one table under a single statement. Assumes
-- nothing.
use Prim.Native.Nat.{ℕ}
use mathlib.Core.Path.{◌≡◌, refl}
use mathlib.Core.List.{List, [], ◌∷◌, map}
use lib.ListN.{replicate}
use Rattle.model.specs.File.{joined}
use Rattle.model.specs.Answers.{Five, five}
use Rattle.model.specs.Compute.Verdict.{check}
use Rattle.model.proofs.Worked.{file, computed}

-- a task's numbers: P, B, W, O, J
abbrev Numbers : Type 0
Numbers = ℕ × ℕ × ℕ × ℕ × ℕ

-- N cores, a horizon, and so many tasks, of which these stand there; no record
abbrev saying : ℕ → ℕ → ℕ → List Numbers → List ℕ
saying N H n τs = file N H (n ∷ joined (λ (P, B, W, O, J). P ∷ B ∷ W ∷ O ∷ J ∷ []) τs) (0 ∷ [])

-- one core, H = 1 and one task, or a few: from O = 1 on it has no job
abbrev one : Numbers → List ℕ
one τ = saying 1 1 1 (τ ∷ [])

abbrev good : Numbers
good = (1, 1, 1, 1, 0)

abbrev bad : Numbers
bad = (0, 1, 1, 1, 0)

-- one task with a job at each instant, and H of them
abbrev ticks : ℕ → List ℕ
ticks H = saying 1 H 1 ((1, 1, 1, 0, 0) ∷ [])

abbrev pub table : List (List ℕ × Five)
table =
    -- N from 1 to 16
    (saying 0 1 1 (good ∷ []), five 4 3 0 0 0)
    ∷ (saying 1 1 1 (good ∷ []), five 0 0 0 0 0)
    ∷ (saying 16 1 1 (good ∷ []), five 0 0 0 0 0)
    ∷ (saying 17 1 1 (good ∷ []), five 4 3 0 0 0)
    -- H from 1 to 1,000,000
    ∷ (saying 1 0 1 (good ∷ []), five 4 3 0 0 0)
    ∷ (saying 1 1000000 1 ((1, 1, 1, 1000000, 0) ∷ []), five 0 0 0 0 0)
    ∷ (saying 1 1000001 1 ((1, 1, 1, 1000000, 0) ∷ []), five 4 3 0 0 0)
    -- from 1 to 32 tasks
    ∷ (saying 1 1 0 [], five 4 4 0 0 0)
    ∷ (saying 1 1 32 (replicate 32 good), five 0 0 0 0 0)
    ∷ (saying 1 1 33 (replicate 33 good), five 4 4 0 0 0)
    -- P from 1 to 1,000,000
    ∷ (one (0, 1, 1, 1, 0), five 4 5 0 0 0)
    ∷ (one (1000000, 1, 1, 1, 0), five 0 0 0 0 0)
    ∷ (one (1000001, 1, 1, 1, 0), five 4 5 0 0 0)
    -- 1 ≤ B ≤ W ≤ 1,000,000
    ∷ (one (1, 0, 1, 1, 0), five 4 5 0 0 0)
    ∷ (one (1, 2, 2, 1, 0), five 0 0 0 0 0)
    ∷ (one (1, 3, 2, 1, 0), five 4 5 0 0 0)
    ∷ (one (1, 1, 1000000, 1, 0), five 0 0 0 0 0)
    ∷ (one (1, 1, 1000001, 1, 0), five 4 5 0 0 0)
    -- O to 1,000,000
    ∷ (one (1, 1, 1, 1000000, 0), five 0 0 0 0 0)
    ∷ (one (1, 1, 1, 1000001, 0), five 4 5 0 0 0)
    -- J below P
    ∷ (one (7, 1, 1, 1, 6), five 0 0 0 0 0)
    ∷ (one (7, 1, 1, 1, 7), five 4 5 0 0 0)
    -- the task that is named: the least bad one
    ∷ (saying 1 1 3 (good ∷ good ∷ bad ∷ []), five 4 5 2 0 0)
    ∷ (saying 1 1 3 (good ∷ bad ∷ bad ∷ []), five 4 5 1 0 0)
    -- 512 jobs, and 513: of one task, and of all together
    ∷ (ticks 512, five 3 1 0 0 0)
    ∷ (ticks 513, five 4 6 0 0 0)
    ∷ (saying 1 257 2 ((1, 1, 1, 1, 0) ∷ (1, 1, 1, 1, 0) ∷ []), five 3 1 0 0 0)
    ∷ (saying 1 257 2 ((1, 1, 1, 1, 0) ∷ (1, 1, 1, 0, 0) ∷ []), five 4 6 0 0 0)
    ∷ []

pub at_limits : map (λ row. check row.0) table ≡ map (λ row. row.1) table
unfolding computed
at_limits = refl
