-- The tests of the ranges say what the ranges are. Assumes nothing.
use Rattle.std.specs.Prelude.{None}
use Prim.Native.Nat.{ℕ, ◌≤◌, ◌<◌}
use mathlib.Core.Path.{◌≡◌}
use mathlib.Core.Logic.{◌↔◌}
use mathlib.Core.List.{List}
use native.Mathlib.Omega.{arith}
use lib.ListN.{length}
use Rattle.base.proofs.Test.{Says, says_leb, says_ltb, says_and, says_not, says_map, stable}
use Rattle.base.proofs.Searches.{Finds, first_finds, finds_same, finds_none}
use Rattle.model.specs.declared.setting.Setting.{Setting}
use Rattle.model.specs.declared.task.Task.{Task}
use Rattle.model.specs.Model.{most_cores, most_horizon, most_period, most_time, most_offset, SettingInRange, TaskInRange, task}
use Rattle.model.specs.Compute.Limits.{within, setting_in_range, task_in_range, bad_task}

pub says_within : (lo hi v : ℕ) → Says (within lo hi v) ((lo ≤ v) × (v ≤ hi))
says_within lo hi v = says_and (says_leb lo v) (says_leb v hi)

pub says_setting : (σ : Setting) → Says (setting_in_range σ) (SettingInRange σ)
unfolding setting_in_range
says_setting σ =
    says_map
    (λ h. record { cores = h.0; horizon = h.1 })
    (λ h. (h.cores, h.horizon))
    (says_and (says_within 1 most_cores σ.cores) (says_within 1 most_horizon σ.horizon))

pub says_task : (τ : Task) → Says (task_in_range τ) (TaskInRange τ)
unfolding task_in_range
says_task τ =
    let period = says_within 1 most_period τ.period in
    let times = says_and (says_leb 1 τ.least) (says_and (says_leb τ.least τ.greatest) (says_leb τ.greatest most_time)) in
    let offset = says_leb τ.offset most_offset in
    let jitter = says_ltb τ.jitter τ.period in
    says_map
    (λ h. record { period = h.0.0.0; times = (h.0.0.1.0, h.0.0.1.1.0, h.0.0.1.1.1); offset = h.0.1; jitter = h.1 })
    (λ h. (((h.period, (h.times.0, (h.times.1, h.times.2))), h.offset), h.jitter))
    (says_and (says_and (says_and period times) offset) jitter)

module _ (τs : List Task) where
  pub bad_task_finds : Finds ◌<◌ (λ i. (i < length τs) × ¬ TaskInRange (task τs i)) (bad_task τs)
  unfolding bad_task
  bad_task_finds =
      finds_same
      (λ i h. (omega arith, h.2))
      (λ i h. (omega arith, omega arith, h.1))
      (first_finds _ _ (λ i. says_not (says_task (task τs i))) 0 (length τs))

  pub tasks_fine : (bad_task τs ≡ None) ↔ ((i : ℕ) → i < length τs → TaskInRange (task τs i))
  tasks_fine =
      let (to, back) = finds_none _ _ bad_task_finds in
      (λ e i h. stable (says_task (task τs i)) (λ w. to e i (h, w)), λ g. back (λ i h. h.1 (g i h.0)))
