-- Demand 3: "if any task is allowed more jitter, a shorter least time or a longer greatest time".
use Rattle.std.specs.Prelude.{◌≤◌, ◌≡◌, List, [], ◌∷◌}
use Rattle.model.specs.declared.task.Task.{Task}
use Rattle.model.specs.Model.{Run}

-- a task that is allowed as much as another, or more
pub record WiderTask (τ σ : Task) : Type 0 where
  pub period : σ.period ≡ τ.period
  pub offset : σ.offset ≡ τ.offset
  pub jitter : τ.jitter ≤ σ.jitter
  pub least : σ.least ≤ τ.least
  pub greatest : τ.greatest ≤ σ.greatest

-- as many tasks, each wider
pub data Wider : List Task → List Task → Type 0 where
  none_left : Wider [] []
  wider : {τ σ : Task} {τs σs : List Task} → WiderTask τ σ → Wider τs σs → Wider (τ ∷ τs) (σ ∷ σs)

-- the same run with other tasks
abbrev pub with_tasks : Run → List Task → Run
with_tasks ρ σs = record { setting = ρ.setting; tasks = σs; records = ρ.records }
