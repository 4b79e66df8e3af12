-- A slice with the four bytes of a number at a place.
use Rattle.std.specs.Prelude.{ℕ, ◌+◌, List, ◌++◌, take, drop}
use Rattle.model.specs.File.{bytes4}

unfoldable pub put : List ℕ → ℕ → ℕ → List ℕ
put s i v = take i s ++ bytes4 v ++ drop (i + 4) s
