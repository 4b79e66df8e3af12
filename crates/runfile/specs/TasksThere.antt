-- A file that has the bytes of its tasks.
use Rattle.std.specs.Prelude.{ℕ, ◌+◌, ◌*◌, ◌-◌, ◌≤◌, List, length}
use Rattle.model.specs.File.{tasks_place, task_size}

-- those of the first n tasks; of none, in every file
abbrev pub TasksThere : List ℕ → ℕ → Type 0
TasksThere b n = task_size * n ≤ length b - (tasks_place + 4)
