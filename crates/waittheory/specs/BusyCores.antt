-- How many records run at an instant, and how many cores are busy then.
use Rattle.std.specs.Prelude.{ℕ, suc, ◌≤◌, ◌<◌, length}
use Rattle.base.specs.First.{Number}
use Rattle.model.specs.Model.{Run, rec}
use Rattle.model.specs.Rules.{Busy}

module _ (ρ : Run) (t : ℕ) where
  -- record k runs at t
  abbrev pub RunsAt : ℕ → Type 0
  RunsAt k = ((rec ρ k).start ≤ t) × (t < (rec ρ k).end)

  -- so many records run at t
  abbrev pub Running : ℕ → Type 0
  Running = Number RunsAt (length ρ.records)

  -- so many of the cores 1 to N are busy at t
  abbrev pub BusyCores : ℕ → Type 0
  BusyCores = Number (λ i. Busy ρ (suc i) t) ρ.setting.cores
