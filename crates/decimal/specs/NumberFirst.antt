-- A number that stands first in a text: the text IS the number's decimal, a byte that ends it, and the rest. No leading zero and no limit
-- is named: that `01`, `4294967296` and the empty text are no number so written follows.
use Rattle.std.specs.Prelude.{ℕ, ◌≤◌, List, ◌∷◌, ◌++◌, ◌≡◌, length, drop, None, Option, Some}
use Rattle.model.specs.File.{FourBytes}
use Rattle.model.specs.Report.{decimal}

pub record NumberFirst (l : List ℕ) (v stop : ℕ) (rest : List ℕ) : Type 0 where
  pub four_bytes : FourBytes v
  pub text : l ≡ decimal v ++ (stop ∷ rest)

-- what is read at a place of a text: the number, and the place after the byte that ends it; or that none stands there
abbrev pub SaysNumber : List ℕ → ℕ → ℕ → Option (ℕ × ℕ) → Type 0
SaysNumber s at stop (Some (v, next)) = (next ≤ length s) × NumberFirst (drop at s) v stop (drop next s)
SaysNumber s at stop None = (v : ℕ) (rest : List ℕ) → ¬ NumberFirst (drop at s) v stop rest
