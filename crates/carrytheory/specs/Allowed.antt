-- How far a run may be carried.
use Rattle.std.specs.Prelude.{ℕ, ◌≤◌}
use Rattle.model.specs.Model.{Run, most_horizon, most_jobs, total_jobs}

-- to H' from its own horizon up to the limits at which its jobs fit: neither 9 nor 6 refuses it
pub record Allowed (ρ : Run) (H' : ℕ) : Type 0 where
  pub longer : ρ.setting.horizon ≤ H'
  pub most : H' ≤ most_horizon
  pub few : total_jobs ρ.tasks H' ≤ most_jobs
