-- Document 01, the table of refusals: what each number is given exactly when. What is asked of any bytes, in the order in which they are
-- judged, each with the number of the refusal that is given where it does not hold. That `read`, `check` and `carry` refuse so is
-- `refused_exactly_when`, `check_refuses` and `carry_refuses`.
use Rattle.std.specs.Prelude.{ℕ, ◌+◌, ◌≤◌, ◌<◌, ◌≡◌, ◌⊎◌, List, [], ◌∷◌, ◌++◌, length}
use Rattle.base.specs.First.{First}
use Rattle.model.specs.declared.task.Task.{Task}
use Rattle.model.specs.Model.{Run, SettingInRange, TaskInRange, most_horizon, most_tasks, most_jobs, most_records, total_jobs, existing, task}
use Rattle.model.specs.File.{num, setting_at, tasks_place, records_place, tasks_in, run_at, size_of}
use Rattle.model.specs.Rules.{Obeys}

-- The file is judged from the front and the first fault met is the answer.
-- ------------------------------------------------------------------------
abbrev pub Asked : Type 1
Asked = List (ℕ × Type 0)

-- this number is that of the first that does not hold
abbrev pub FirstFault : Asked → ℕ → Type 0
FirstFault [] ν = ⊥
FirstFault ((μ, A) ∷ qs) ν = ((¬ A) × (μ ≡ ν)) ⊎ (A × FirstFault qs ν)

-- all hold
abbrev pub NoFault : Asked → Type 0
NoFault [] = Unit {0}
NoFault ((μ, A) ∷ qs) = A × NoFault qs

-- What is asked of a file.
-- ------------------------
module _ (b : List ℕ) where
  -- what the bytes tell, whether or not they are refused
  abbrev pub task_count : ℕ
  task_count = num b tasks_place

  abbrev pub tasks_told : List Task
  tasks_told = tasks_in b task_count

  abbrev pub record_count : ℕ
  record_count = num b (records_place task_count)

  unfoldable pub run_in : Run
  run_in = run_at b (setting_at b 4) tasks_told (records_place task_count + 4) record_count

  -- A count is judged once its four bytes are there, before its entries. A section's entries must all be there before any is judged.
  -- Number 6 at H comes after all tasks are judged and before the record count is read.
  abbrev pub asked_of_file : Asked
  asked_of_file =
      -- the setting's count, and the setting
      (1, 4 ≤ length b)
      ∷ (2, num b 0 ≡ 2)
      ∷ (1, tasks_place ≤ length b)
      ∷ (3, SettingInRange (setting_at b 4))
      -- the task count, and the tasks
      ∷ (1, tasks_place + 4 ≤ length b)
      ∷ (4, (1 ≤ task_count) × (task_count ≤ most_tasks))
      ∷ (1, records_place task_count ≤ length b)
      ∷ (5, (i : ℕ) → i < length tasks_told → TaskInRange (task tasks_told i))
      ∷ (6, total_jobs tasks_told (setting_at b 4).horizon ≤ most_jobs)
      -- the record count, the records, and nothing after them
      ∷ (1, records_place task_count + 4 ≤ length b)
      ∷ (7, record_count ≤ most_records)
      ∷ (1, size_of task_count record_count ≤ length b)
      ∷ (8, length b ≤ size_of task_count record_count)
      ∷ []

  -- 5 names the least task out of its ranges; every other refusal names 0
  abbrev pub Names : ℕ → ℕ → Type 0
  Names ν i =
      (ν ≡ 5 → First ◌<◌ (λ k. (k < length tasks_told) × ¬ TaskInRange (task tasks_told k)) i)
      × (¬ (ν ≡ 5) → i ≡ 0)

-- Carrying goes on with 9, 6 at H', 10, 11.
abbrev pub asked_of_carry : Run → ℕ → ℕ → Asked
asked_of_carry ρ H' room =
    (9, (ρ.setting.horizon ≤ H') × (H' ≤ most_horizon))
    ∷ (6, total_jobs ρ.tasks H' ≤ most_jobs)
    ∷ (10, Obeys ρ)
    ∷ (11, size_of (length ρ.tasks) (length (existing ρ H')) ≤ room)
    ∷ []

-- What is asked of a file that is to be carried to H' into an output with room for so many bytes.
abbrev pub asked_of_both : List ℕ → ℕ → ℕ → Asked
asked_of_both b H' room = asked_of_file b ++ asked_of_carry (run_in b) H' room
