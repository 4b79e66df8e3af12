-- The carry from start to start, with no instant in between: `carry_by_starts` gives what `carried` gives (proofs/Jumps.antt).
use Rattle.std.specs.Prelude.{ℕ, zero, suc, None, Option, Some}
use Rattle.base.specs.Find.{first_of, count}
use Rattle.model.specs.Model.{Run}
use Rattle.model.specs.Carry.{not_begun, next, starts, both, instants_from, opening}
use Rattle.model.specs.Compute.Places.{size, idle_core}

module _ (σ : Run) where
  -- the job that starts at t and its core, if there are both
  unfoldable pub start_at : ℕ → Option (ℕ × ℕ)
  start_at t = both (next σ t) (idle_core σ t)

  -- the least instant from t on at which a job starts, with the job and its core
  unfoldable pub next_start : ℕ → Option (ℕ × (ℕ × ℕ))
  next_start t = first_of start_at t (instants_from t)

  -- how many jobs have not begun
  unfoldable pub waiting : ℕ
  waiting = count (not_begun σ) (size σ)

-- From instant t on, m starts, one after the other.
unfoldable pub start_all : ℕ → ℕ → Run → Run
start_all zero t σ = σ
start_all (suc m) t σ = elim (next_start σ t) [ None ↦ σ | Some p ↦ start_all m p.0 (starts σ p.0 p.1.0 p.1.1) ]

unfoldable pub carry_by_starts : Run → ℕ → Run
carry_by_starts ρ H' = start_all (waiting (opening ρ H')) ρ.setting.horizon (opening ρ H')
