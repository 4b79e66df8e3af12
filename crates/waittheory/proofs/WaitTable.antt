-- Document 02, request 5: the numbers of its bound, of small runs and of document 01's C1, one table under a single statement. In some of them the bound
-- is attained exactly; and what would be false: the wait from the release, and the lengths of another run. Assumes nothing.
use Prim.Native.Nat.{ℕ, ◌*◌, ◌-◌}
use mathlib.Core.Path.{◌≡◌, refl}
use mathlib.Core.List.{List, [], ◌∷◌, map}
use Rattle.model.specs.Model.{Run, rec, lengths}
use Rattle.model.specs.Refusals.{run_in}
use Rattle.model.specs.Answers.{five}
use Rattle.model.specs.Compute.Verdict.{check}
use Rattle.model.proofs.Worked.{computed, file, C1}
use Rattle.waittheory.specs.WaitBound.{wait_of, wait_times_N, others, greatest_times}

-- One core, H = 1. Task 0: P 10, B 1, W 5, O 0, J 0. Task 1: P 10, B 1, W 1, O 0, J 0. The first job takes 1 tick, and in a run of the same
-- set 5.
abbrev short_first : List ℕ
short_first = file 1 1 (2 ∷ 10 ∷ 1 ∷ 5 ∷ 0 ∷ 0 ∷ 10 ∷ 1 ∷ 1 ∷ 0 ∷ 0 ∷ []) (2 ∷ 0 ∷ 0 ∷ 0 ∷ 0 ∷ 1 ∷ 1 ∷ 1 ∷ 0 ∷ 0 ∷ 1 ∷ 2 ∷ 1 ∷ [])

abbrev long_first : List ℕ
long_first = file 1 1 (2 ∷ 10 ∷ 1 ∷ 5 ∷ 0 ∷ 0 ∷ 10 ∷ 1 ∷ 1 ∷ 0 ∷ 0 ∷ []) (2 ∷ 0 ∷ 0 ∷ 0 ∷ 0 ∷ 5 ∷ 1 ∷ 1 ∷ 0 ∷ 0 ∷ 5 ∷ 6 ∷ 1 ∷ [])

-- Two cores, H = 1. Tasks 0 and 1: P 3, B 3, W 4, O 0, J 0. Task 2: P 3, B 1, W 1, O 0, J 0: it waits for both, and is late.
abbrev pub two_before : List ℕ
two_before =
    file 2 1 (3 ∷ 3 ∷ 3 ∷ 4 ∷ 0 ∷ 0 ∷ 3 ∷ 3 ∷ 4 ∷ 0 ∷ 0 ∷ 3 ∷ 1 ∷ 1 ∷ 0 ∷ 0 ∷ [])
    (3 ∷ 0 ∷ 0 ∷ 0 ∷ 0 ∷ 3 ∷ 1 ∷ 1 ∷ 0 ∷ 0 ∷ 0 ∷ 3 ∷ 2 ∷ 2 ∷ 0 ∷ 0 ∷ 3 ∷ 4 ∷ 1 ∷ [])

-- Two cores, H = 6, one task: P 3, B 9, W 9, O 0, J 0. Job 1 is released at 3 and ready when job 0 ends.
abbrev held_up : List ℕ
held_up = file 2 6 (1 ∷ 3 ∷ 9 ∷ 9 ∷ 0 ∷ 0 ∷ []) (2 ∷ 0 ∷ 0 ∷ 0 ∷ 0 ∷ 9 ∷ 1 ∷ 0 ∷ 1 ∷ 3 ∷ 9 ∷ 18 ∷ 1 ∷ [])

-- One core, H = 4. Task 0: P 3, B 4, W 4, O 0, J 0. Task 1: P 6, B 2, W 2, O 0, J 0. Job 1 of task 0 is ready at 4, and waits for task 1 from then on.
abbrev held_then_waits : List ℕ
held_then_waits =
    file 1 4 (2 ∷ 3 ∷ 4 ∷ 4 ∷ 0 ∷ 0 ∷ 6 ∷ 2 ∷ 2 ∷ 0 ∷ 0 ∷ [])
    (3 ∷ 0 ∷ 0 ∷ 0 ∷ 0 ∷ 4 ∷ 1 ∷ 0 ∷ 1 ∷ 3 ∷ 6 ∷ 10 ∷ 1 ∷ 1 ∷ 0 ∷ 0 ∷ 4 ∷ 6 ∷ 1 ∷ [])

-- One core, H = 1, one task: P 10, B 1, W 1, O 0, J 0. Its job starts at 5, while the core idles.
abbrev idles : List ℕ
idles = file 1 1 (1 ∷ 10 ∷ 1 ∷ 1 ∷ 0 ∷ 0 ∷ []) (1 ∷ 0 ∷ 0 ∷ 0 ∷ 5 ∷ 6 ∷ 1 ∷ [])

-- What is said of a record of a file: the answer, its wait, N times that, and the sums of the lengths and of the greatest times of all others.
abbrev said : List ℕ → ℕ → List ℕ
said b k =
    let ρ : Run = run_in b in
    (check b).answer ∷ wait_of ρ k ∷ wait_times_N ρ k ∷ lengths ρ (others ρ k) ∷ greatest_times ρ (others ρ k) ∷ []

abbrev pub table : List ((List ℕ × ℕ) × List ℕ)
table =
    -- it waits for one, and for all that there are on two cores: attained
    ((short_first, 1), 0 ∷ 1 ∷ 1 ∷ 1 ∷ 5 ∷ [])
    ∷ ((long_first, 1), 0 ∷ 5 ∷ 5 ∷ 5 ∷ 5 ∷ [])
    ∷ ((two_before, 2), 2 ∷ 3 ∷ 6 ∷ 6 ∷ 8 ∷ [])
    -- it does not wait, with others before it and after it
    ∷ ((long_first, 0), 0 ∷ 0 ∷ 0 ∷ 1 ∷ 1 ∷ [])
    ∷ ((two_before, 1), 2 ∷ 0 ∷ 0 ∷ 4 ∷ 5 ∷ [])
    -- from when it is ready, and not from its release
    ∷ ((held_up, 1), 1 ∷ 0 ∷ 0 ∷ 9 ∷ 9 ∷ [])
    ∷ ((held_then_waits, 1), 1 ∷ 2 ∷ 2 ∷ 6 ∷ 6 ∷ [])
    -- not attained
    ∷ ((C1, 0), 1 ∷ 14 ∷ 28 ∷ 42 ∷ 47 ∷ [])
    ∷ ((C1, 1), 1 ∷ 0 ∷ 0 ∷ 42 ∷ 47 ∷ [])
    ∷ ((C1, 2), 1 ∷ 16 ∷ 32 ∷ 36 ∷ 41 ∷ [])
    -- a run that is not accepted may wait longer
    ∷ ((idles, 0), 3 ∷ 5 ∷ 5 ∷ 0 ∷ 0 ∷ [])
    ∷ []

unfoldable computed_said : List ℕ → ℕ → List ℕ
unfolding computed run_in
computed_said b k = said b k

pub waits_told : map (λ row. said row.0.0 row.0.1) table ≡ map (λ row. row.1) table
unfolding computed_said
waits_told = refl

-- The bound is attained exactly: an accepted run on two cores, a wait of 3 ticks, 2 · 3 = 3 + 3.
pub attained :
    let ρ = run_in two_before in
    (check two_before ≡ five 2 1 2 0 0) × (wait_of ρ 2 ≡ 3) × (wait_times_N ρ 2 ≡ 6) × (lengths ρ (others ρ 2) ≡ 6)
unfolding computed_said
attained = (refl, refl, refl, refl)

-- From the release there is no such bound: an accepted run on two cores, in which a job starts 6 ticks after its release, and the only other takes 9.
pub not_from_release :
    let ρ = run_in held_up in
    (check held_up ≡ five 1 2 0 0 0) × (ρ.setting.cores * ((rec ρ 1).start - (rec ρ 1).release) ≡ 12) × (lengths ρ (others ρ 1) ≡ 9)
unfolding computed_said
not_from_release = (refl, refl, refl)

-- The lengths of one run do not bound the waits of another of the same set: both are accepted, and 1 · 5 is more than 1.
pub not_by_another_run :
    let ρ = run_in long_first in
    let ρ' = run_in short_first in
    (check long_first ≡ five 0 0 0 0 0) × (check short_first ≡ five 0 0 0 0 0) × (ρ.setting ≡ ρ'.setting) × (ρ.tasks ≡ ρ'.tasks)
    × (wait_times_N ρ 1 ≡ 5) × (lengths ρ' (others ρ' 1) ≡ 1)
unfolding computed_said
not_by_another_run = (refl, refl, refl, refl, refl, refl)
