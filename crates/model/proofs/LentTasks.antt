-- Document 01: "Decoded tasks stand in a list the caller lends, one entry a task." Lists too short, exact and longer, and files that are
-- refused; one table under a single statement. Assumes nothing.
use Rattle.std.specs.Prelude.{None, Some}
use Prim.Native.Nat.{ℕ}
use mathlib.Core.Path.{◌≡◌, refl}
use mathlib.Core.List.{List, [], ◌∷◌, map}
use Rattle.model.specs.declared.task.Task.{Task}
use Rattle.model.specs.File.{Decoded, decoded}
use Rattle.model.proofs.Worked.{file, computed}

abbrev entry : ℕ → ℕ → ℕ → ℕ → ℕ → Task
entry P B W O J = record { period = P; least = B; greatest = W; offset = O; jitter = J }

-- two tasks, the second with this jitter: its period is 20
abbrev two : ℕ → List ℕ
two J = file 1 1 (2 ∷ 10 ∷ 1 ∷ 2 ∷ 3 ∷ 4 ∷ 20 ∷ 5 ∷ 6 ∷ 7 ∷ J ∷ []) (0 ∷ [])

abbrev first_task : Task
first_task = entry 10 1 2 3 4

abbrev second_task : Task
second_task = entry 20 5 6 7 8

-- what stands in the lent list before
abbrev old : ℕ → Task
old k = entry k k k k k

-- the file and the lent list
abbrev pub table : List ((List ℕ × List Task) × Decoded)
table =
    ((two 8, []), record { refusal = Some (11, 0); list = [] })
    ∷ ((two 8, old 1 ∷ []), record { refusal = Some (11, 0); list = old 1 ∷ [] })
    ∷ ((two 8, old 1 ∷ old 2 ∷ []), record { refusal = None; list = first_task ∷ second_task ∷ [] })
    ∷ ((two 8, old 1 ∷ old 2 ∷ old 3 ∷ old 4 ∷ []), record { refusal = None; list = first_task ∷ second_task ∷ old 3 ∷ old 4 ∷ [] })
    -- the file's own refusals come first, and change no entry
    ∷ ((two 20, old 1 ∷ []), record { refusal = Some (5, 1); list = old 1 ∷ [] })
    ∷ ((two 20, old 1 ∷ old 2 ∷ old 3 ∷ []), record { refusal = Some (5, 1); list = old 1 ∷ old 2 ∷ old 3 ∷ [] })
    ∷ []

pub tasks_lent : map (λ row. decoded row.0.0 row.0.1) table ≡ map (λ row. row.1) table
unfolding computed decoded
tasks_lent = refl
