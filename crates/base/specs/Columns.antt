-- Columns that are lent side by side.
use Rattle.std.specs.Prelude.{ℕ, ◌≤◌, ◌≡◌, List, [], ◌∷◌, length}

-- each of some columns is as long as a first
abbrev pub Beside : List ℕ → List (List ℕ) → Type 0
Beside a [] = Unit {0}
Beside a (b ∷ bs) = (length b ≡ length a) × Beside a bs

-- and none is longer than so many
pub record Columns (most : ℕ) (a : List ℕ) (bs : List (List ℕ)) : Type 0 where
  pub beside : Beside a bs
  pub few : length a ≤ most
