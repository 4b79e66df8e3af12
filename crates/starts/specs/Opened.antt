-- The table of what stands at H of a run that keeps the limits and obeys the rules, and may be carried to H'.
use Rattle.std.specs.Prelude.{ℕ, ◌≡◌, List}
use Rattle.carrytheory.specs.Allowed.{Allowed}
use Rattle.model.specs.Model.{Run, WithinLimits}
use Rattle.model.specs.Rules.{Obeys}
use Rattle.model.specs.Carry.{opening}
use Rattle.table.specs.Table.{Lent, columns}

pub record Opened (ρ : Run) (H' N H : ℕ) (t : List ℕ) (n : ℕ) : Type 0 where
  pub limits : WithinLimits ρ
  pub obeys : Obeys ρ
  pub cores : N ≡ ρ.setting.cores
  pub horizon : H ≡ ρ.setting.horizon
  pub allowed : Allowed ρ H'
  pub table : Lent columns (opening ρ H') t n
