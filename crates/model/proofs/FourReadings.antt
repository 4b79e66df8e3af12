-- Document 01, "Four readings that look right": small runs whose right answer the wrong reading would not give. One table under a
-- single statement. Assumes nothing.
use Prim.Native.Nat.{ℕ}
use mathlib.Core.Path.{◌≡◌, refl}
use mathlib.Core.List.{List, [], ◌∷◌, map}
use Rattle.model.specs.Answers.{Five, five}
use Rattle.model.specs.Compute.Verdict.{check}
use Rattle.model.proofs.Worked.{file, computed, C5}

-- Asking only that all cores were busy just before the start: core 1 idles from 0 to 1 while task 0 waits, and is busy from 1 to 2.
abbrev busy_just_before : List ℕ
busy_just_before =
    file 1 2 (2 ∷ 10 ∷ 1 ∷ 1 ∷ 0 ∷ 0 ∷ 5 ∷ 1 ∷ 1 ∷ 1 ∷ 0 ∷ []) (2 ∷ 0 ∷ 0 ∷ 0 ∷ 2 ∷ 3 ∷ 1 ∷ 1 ∷ 0 ∷ 1 ∷ 1 ∷ 2 ∷ 1 ∷ [])

-- A job released at t is ready at t, so that a core free at t may not idle: released at 0, started at 1.
abbrev ready_when_released : List ℕ
ready_when_released = file 1 1 (1 ∷ 10 ∷ 1 ∷ 1 ∷ 0 ∷ 0 ∷ []) (1 ∷ 0 ∷ 0 ∷ 0 ∷ 1 ∷ 2 ∷ 1 ∷ [])

-- .. and a job that starts at t may not pass one that is due sooner and was released at t.
abbrev passed_when_released : List ℕ
passed_when_released =
    file 1 1 (2 ∷ 10 ∷ 1 ∷ 1 ∷ 0 ∷ 0 ∷ 5 ∷ 1 ∷ 1 ∷ 0 ∷ 0 ∷ []) (2 ∷ 0 ∷ 0 ∷ 0 ∷ 0 ∷ 1 ∷ 1 ∷ 1 ∷ 0 ∷ 0 ∷ 1 ∷ 2 ∷ 1 ∷ [])

-- Equal deadlines may go either way: task 0 first, task 1 first.
abbrev two_alike : List ℕ
two_alike = 2 ∷ 10 ∷ 1 ∷ 1 ∷ 0 ∷ 0 ∷ 10 ∷ 1 ∷ 1 ∷ 0 ∷ 0 ∷ []

abbrev lower_first : List ℕ
lower_first = file 1 1 two_alike (2 ∷ 0 ∷ 0 ∷ 0 ∷ 0 ∷ 1 ∷ 1 ∷ 1 ∷ 0 ∷ 0 ∷ 1 ∷ 2 ∷ 1 ∷ [])

abbrev higher_first : List ℕ
higher_first = file 1 1 two_alike (2 ∷ 0 ∷ 0 ∷ 0 ∷ 1 ∷ 2 ∷ 1 ∷ 1 ∷ 0 ∷ 0 ∷ 0 ∷ 1 ∷ 1 ∷ [])

-- Late means e > deadline: the end 1 is the deadline.
abbrev at_deadline : List ℕ
at_deadline = file 1 1 (1 ∷ 1 ∷ 1 ∷ 1 ∷ 0 ∷ 0 ∷ []) (1 ∷ 0 ∷ 0 ∷ 0 ∷ 0 ∷ 1 ∷ 1 ∷ [])

-- The deadline is 10, jitter not counted: released at 2, ended at 11.
abbrev jittered : List ℕ
jittered = file 1 3 (1 ∷ 10 ∷ 9 ∷ 9 ∷ 0 ∷ 2 ∷ []) (1 ∷ 0 ∷ 0 ∷ 2 ∷ 2 ∷ 11 ∷ 1 ∷ [])

abbrev pub table : List (List ℕ × Five)
table =
    -- formulas 8 to 10 as rule 8
    (C5, five 3 8 3 2 2)
    -- busy only just before the start
    ∷ (busy_just_before, five 3 8 0 0 1)
    -- released at t not ready at t
    ∷ (ready_when_released, five 3 8 0 0 1)
    ∷ (passed_when_released, five 3 7 0 1 0)
    -- strict order among equal deadlines
    ∷ (lower_first, five 0 0 0 0 0)
    ∷ (higher_first, five 0 0 0 0 0)
    -- e = deadline late
    ∷ (at_deadline, five 0 0 0 0 0)
    -- deadline from the jittered release
    ∷ (jittered, five 1 1 0 0 0)
    ∷ []

pub right_readings : map (λ row. check row.0) table ≡ map (λ row. row.1) table
unfolding computed
right_readings = refl
