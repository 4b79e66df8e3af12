-- The first instant from another on of which something holds.
use Rattle.std.specs.Prelude.{ℕ, ◌≤◌, ◌<◌}

-- the greatest number of 32 bits, for no instant
abbrev pub never : ℕ
never = 4294967295

-- r is the first instant from t on of which P holds; `never` if P holds of none before it
pub record FirstFrom (P : ℕ → Type 0) (t r : ℕ) : Type 0 where
  pub from : t ≤ r
  pub clear : (x : ℕ) → t ≤ x → x < r → ¬ P x
  pub here : r < never → P r

-- x lies in the stretch from a start up to an end
abbrev pub Within : ℕ → ℕ → ℕ → Type 0
Within start end x = (start ≤ x) × (x < end)

-- P holds of one of the first n at x
abbrev pub Among : (ℕ → ℕ → Type 0) → ℕ → ℕ → Type 0
Among P n x = (k : ℕ) × ((k < n) × P k x)
