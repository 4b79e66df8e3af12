-- Each bound of each rule, at its border and one beyond: small runs, one table under a single statement. Assumes nothing.
use Prim.Native.Nat.{ℕ}
use mathlib.Core.Path.{◌≡◌, refl}
use mathlib.Core.List.{List, [], ◌∷◌, map}
use Rattle.model.specs.Answers.{Five, five}
use Rattle.model.specs.Compute.Verdict.{check}
use Rattle.model.proofs.Worked.{file, computed}

-- One core, H = 6, one task: P 10, B 2, W 3, O 5, J 1. Its job 0 exists, with this release, start, end and core.
abbrev alone : ℕ → ℕ → ℕ → ℕ → List ℕ
alone r s e core = file 1 6 (1 ∷ 10 ∷ 2 ∷ 3 ∷ 5 ∷ 1 ∷ []) (1 ∷ 0 ∷ 0 ∷ r ∷ s ∷ e ∷ core ∷ [])

-- N cores and a horizon, tasks 0 and 1 with B 1, W 5, J 0 and these periods and offsets; job 0 of each, with these releases,
-- starts, ends and cores.
abbrev beside : ℕ → ℕ → ℕ × ℕ → ℕ × ℕ → ℕ × ℕ × ℕ × ℕ → ℕ × ℕ × ℕ × ℕ → List ℕ
beside N H (P₀, O₀) (P₁, O₁) (r₀, s₀, e₀, c₀) (r₁, s₁, e₁, c₁) =
    file N H (2 ∷ P₀ ∷ 1 ∷ 5 ∷ O₀ ∷ 0 ∷ P₁ ∷ 1 ∷ 5 ∷ O₁ ∷ 0 ∷ [])
    (2 ∷ 0 ∷ 0 ∷ r₀ ∷ s₀ ∷ e₀ ∷ c₀ ∷ 1 ∷ 0 ∷ r₁ ∷ s₁ ∷ e₁ ∷ c₁ ∷ [])

abbrev pub table : List (List ℕ × Five)
table =
    -- rule 1: another task, another job, one record too many
    (file 1 6 (1 ∷ 10 ∷ 2 ∷ 3 ∷ 5 ∷ 1 ∷ []) (1 ∷ 1 ∷ 0 ∷ 5 ∷ 5 ∷ 7 ∷ 1 ∷ []), five 3 1 0 0 0)
    ∷ (file 1 6 (1 ∷ 10 ∷ 2 ∷ 3 ∷ 5 ∷ 1 ∷ []) (1 ∷ 0 ∷ 1 ∷ 5 ∷ 5 ∷ 7 ∷ 1 ∷ []), five 3 1 0 0 0)
    ∷ (file 1 5 (1 ∷ 10 ∷ 2 ∷ 3 ∷ 5 ∷ 1 ∷ []) (1 ∷ 0 ∷ 0 ∷ 5 ∷ 5 ∷ 7 ∷ 1 ∷ []), five 3 1 0 0 0)
    -- rule 2: from O to O + J
    ∷ (alone 4 4 6 1, five 3 2 0 0 0)
    ∷ (alone 5 5 7 1, five 0 0 0 0 0)
    ∷ (alone 6 6 8 1, five 0 0 0 0 0)
    ∷ (alone 7 7 9 1, five 3 2 0 0 0)
    -- rule 3: not before the release
    ∷ (alone 6 5 7 1, five 3 3 0 0 0)
    -- rule 4: from B to W, and not backwards
    ∷ (alone 5 5 4 1, five 3 4 0 0 0)
    ∷ (alone 5 5 6 1, five 3 4 0 0 0)
    ∷ (alone 5 5 8 1, five 0 0 0 0 0)
    ∷ (alone 5 5 9 1, five 3 4 0 0 0)
    -- rule 5: from 1 to N
    ∷ (alone 5 5 7 0, five 3 5 0 0 0)
    ∷ (alone 5 5 7 2, five 3 5 0 0 0)
    -- any free core may be taken: core 2 while core 1 is free
    ∷ (file 2 6 (1 ∷ 10 ∷ 2 ∷ 3 ∷ 5 ∷ 1 ∷ []) (1 ∷ 0 ∷ 0 ∷ 5 ∷ 5 ∷ 7 ∷ 2 ∷ []), five 0 0 0 0 0)
    -- rule 6: one may start as the other ends, and no sooner; on two cores they may run beside each other
    ∷ (beside 1 1 (10, 0) (10, 0) (0, 0, 2, 1) (0, 2, 3, 1), five 0 0 0 0 0)
    ∷ (beside 1 1 (10, 0) (10, 0) (0, 0, 2, 1) (0, 1, 3, 1), five 3 6 0 1 0)
    ∷ (beside 1 1 (10, 0) (10, 0) (0, 1, 3, 1) (0, 0, 2, 1), five 3 6 0 1 0)
    ∷ (beside 2 1 (10, 0) (10, 0) (0, 0, 2, 1) (0, 0, 2, 2), five 0 0 0 0 0)
    -- rule 7: the later record of the two may be the one that starts too soon; it may start before the other is released
    ∷ (beside 1 1 (5, 0) (10, 0) (0, 1, 2, 1) (0, 0, 1, 1), five 3 7 1 0 0)
    ∷ (beside 1 2 (5, 1) (10, 0) (1, 1, 2, 1) (0, 0, 1, 1), five 0 0 0 0 0)
    -- rule 8: idle just before the start; of two idle cores the lower
    ∷ (beside 1 1 (10, 0) (5, 0) (0, 2, 3, 1) (0, 0, 1, 1), five 3 8 0 1 1)
    ∷ (beside 2 1 (10, 0) (5, 0) (0, 1, 2, 1) (0, 1, 2, 2), five 3 8 0 0 1)
    -- late, beginning at H and before it
    ∷ (beside 1 2 (10, 0) (2, 1) (0, 0, 2, 1) (1, 2, 4, 1), five 2 1 1 0 0)
    ∷ (beside 1 3 (10, 0) (2, 1) (0, 0, 2, 1) (1, 2, 4, 1), five 1 1 1 0 0)
    ∷ (beside 1 3 (10, 0) (2, 1) (0, 0, 2, 1) (1, 2, 3, 1), five 0 0 0 0 0)
    -- both late, record 0 from H on: record 1 is named, and both are counted
    ∷ (beside 1 1 (3, 0) (2, 0) (0, 5, 6, 1) (0, 0, 5, 1), five 1 2 1 0 0)
    ∷ []

pub at_borders : map (λ row. check row.0) table ≡ map (λ row. row.1) table
unfolding computed
at_borders = refl
