-- Tests of the ranges: `setting_in_range` says `SettingInRange`, `task_in_range` says `TaskInRange` (proofs/Limits.antt).
use Rattle.std.specs.Prelude.{ℕ, Bool, not, ◌&&◌, List, leb, ltb, length, Option}
use Rattle.base.specs.Find.{first}
use Rattle.model.specs.declared.setting.Setting.{Setting}
use Rattle.model.specs.declared.task.Task.{Task}
use Rattle.model.specs.Model.{most_cores, most_horizon, most_period, most_time, most_offset, task}

abbrev pub within : ℕ → ℕ → ℕ → Bool
within lo hi v = leb lo v && leb v hi

unfoldable pub setting_in_range : Setting → Bool
setting_in_range σ = within 1 most_cores σ.cores && within 1 most_horizon σ.horizon

unfoldable pub task_in_range : Task → Bool
task_in_range τ =
    within 1 most_period τ.period
    && (leb 1 τ.least && (leb τ.least τ.greatest && leb τ.greatest most_time))
    && leb τ.offset most_offset
    && ltb τ.jitter τ.period

-- the least task out of its ranges
unfoldable pub bad_task : List Task → Option ℕ
bad_task τs = first (λ i. not (task_in_range (task τs i))) 0 (length τs)
