-- A text with some bytes from a place on.
use Rattle.std.specs.Prelude.{ℕ, ◌+◌, List, ◌++◌, ◌≡◌, length, take, drop}

unfoldable pub pasted : List ℕ → ℕ → List ℕ → List ℕ
pasted s i bs = take i s ++ bs ++ drop (i + length bs) s

-- the text s became t: some bytes were written from a place on, up to another place
pub record Wrote (s : List ℕ) (i : ℕ) (bs : List ℕ) (t : List ℕ) (j : ℕ) : Type 0 where
  pub place : j ≡ i + length bs
  pub text : t ≡ pasted s i bs
  pub long : length t ≡ length s
