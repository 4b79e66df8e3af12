-- Document 02, request 5: N times a job's wait from ready to start is at most the sum of the lengths of all other records.
use Rattle.std.specs.Prelude.{ℕ, suc, ◌*◌, ◌-◌, ◌≤◌, ◌≡◌, List, ◌++◌, map, length}
use Rattle.sorting.specs.Sorted.{up_to}
use Rattle.model.specs.Model.{Run, rec, task_of, ready, sum, lengths}

-- the numbers below n but k: those before it, and those after it
abbrev pub all_but : ℕ → ℕ → List ℕ
all_but n k = up_to 0 k ++ up_to (suc k) (n - suc k)

module _ (ρ : Run) where
  -- a job's wait from ready to start
  abbrev pub wait_of : ℕ → ℕ
  wait_of k = (rec ρ k).start - ready ρ k

  -- N times a job's wait
  abbrev pub wait_times_N : ℕ → ℕ
  wait_times_N k = ρ.setting.cores * wait_of k

  -- all other records
  abbrev pub others : ℕ → List ℕ
  others k = all_but (length ρ.records) k

  -- N times a job's wait from ready to start is at most the sum of the lengths of all other records.
  abbrev pub WaitBounded : ℕ → Type 0
  WaitBounded k = wait_times_N k ≤ lengths ρ (others k)

  -- The same with the greatest times W in place of the lengths.
  abbrev pub greatest_of : ℕ → ℕ
  greatest_of k = (task_of ρ k).greatest

  abbrev pub greatest_times : List ℕ → ℕ
  greatest_times l = sum (map greatest_of l)

  abbrev pub WaitBoundedByTimes : ℕ → Type 0
  WaitBoundedByTimes k = wait_times_N k ≤ greatest_times (others k)

-- Two runs of one set: the same setting and the same tasks.
pub record OneSet (ρ ρ' : Run) : Type 0 where
  pub setting : ρ.setting ≡ ρ'.setting
  pub tasks : ρ.tasks ≡ ρ'.tasks
