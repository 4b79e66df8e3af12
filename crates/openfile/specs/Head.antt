-- What a file tells besides its records: its head, or its refusal.
use Rattle.std.specs.Prelude.{ℕ, ◌+◌, ◌≤◌, ◌<◌, ◌≡◌, List, [], length, None, Some, Result, Ok, Err}
use Rattle.model.specs.declared.task.Task.{Task}
use Rattle.model.specs.declared.refusal.Refusal.{Refusal}
use Rattle.model.specs.declared.refusal.Refusal.TheVariants.{TaskRange}
use Rattle.model.specs.Model.{Run, WithinLimits, task, total_jobs}
use Rattle.model.specs.File.{Read, refused, whole, read, tasks_place, record_place}
use Rattle.model.specs.Compute.Limits.{bad_task}
use Rattle.openfile.specs.declared.head.Head.{Head}

-- the head of a file that tells a run
abbrev pub head_of : Run → Head
head_of ρ =
    record {
      setting = ρ.setting;
      tasks = length ρ.tasks;
      tasks_at = tasks_place + 4;
      records = length ρ.records;
      records_at = record_place ρ 0;
    }

-- the head of a file, or the two numbers of its refusal
unfoldable pub opened_of : Read → Result Head (ℕ × ℕ)
opened_of (refused ν i) = Err (ν, i)
opened_of (whole ρ) = Ok (head_of ρ)

-- A file that tells a run, and its head.
pub record Tells (b : List ℕ) (h : Head) (ρ : Run) : Type 0 where
  pub reads : read b ≡ whole ρ
  pub head : h ≡ head_of ρ

-- the run that a file tells; a refused file tells none, and this is one without tasks and records
abbrev pub run_of : Read → Run
run_of (refused ν i) = record { setting = record { cores = 0; horizon = 0 }; tasks = []; records = [] }
run_of (whole ρ) = ρ

unfoldable pub run_in : List ℕ → Run
run_in b = run_of (read b)

-- The first entries of a list are the tasks of a run.
pub record Leads (ρ : Run) (l : List Task) : Type 0 where
  pub room : length ρ.tasks ≤ length l
  pub each : (i : ℕ) → i < length ρ.tasks → task l i ≡ task ρ.tasks i

-- What is known of a run, within its limits, besides its records: its head, and its tasks in a list.
pub record Known (h : Head) (l : List Task) (ρ : Run) : Type 0 where
  pub limits : WithinLimits ρ
  pub head : h ≡ head_of ρ
  pub tasks : Leads ρ l

-- The least task that is out of its ranges, or, where none is, how many jobs the tasks have before a horizon.
pub data Tallies (τs : List Task) (H : ℕ) : Result ℕ Refusal → Type 0 where
  out_of_range : {i : ℕ} → bad_task τs ≡ Some i → Tallies τs H (Err (TaskRange i))
  all_in_range : {n : ℕ} → bad_task τs ≡ None → n ≡ total_jobs τs H → Tallies τs H (Ok n)
