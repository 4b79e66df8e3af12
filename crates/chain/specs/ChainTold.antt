-- The chain of a record over the table of its run, and what is told of it: numbers of four bytes, from a place on.
use Rattle.std.specs.Prelude.{ℕ, ◌+◌, ◌*◌, ◌≡◌, Bool, true, false, ◌&&◌, List, [], ◌∷◌, leb, eqb, length, get_or}
use Rattle.model.specs.Model.{Run}
use Rattle.model.specs.Rules.{Obeys}
use Rattle.table.specs.Table.{Lent, recorded}
use Rattle.wire.specs.Put.{put}

-- the table of a run that obeys all rules, with the numbers of its records
pub record Traced (ρ : Run) (t : List ℕ) (n : ℕ) : Type 0 where
  pub table : Lent recorded ρ t n
  pub obeys : Obeys ρ

-- the start of record k
abbrev pub start_in : List ℕ → ℕ → ℕ → ℕ
start_in t n k = get_or t (3 * n + k) 0

-- whether the record at place j of two columns is on core c and ended at an instant
unfoldable pub ended_in : List ℕ → List ℕ → ℕ → ℕ → ℕ → Bool
ended_in es cs c at j = eqb (get_or es j 0) at && eqb (get_or cs j 0) c

-- a number at place i, counted in numbers of four bytes; past the end of the slice nothing is written
abbrev pub put_where : Bool → List ℕ → ℕ → ℕ → List ℕ
put_where true s i v = put s (4 * i) v
put_where false s i v = s

unfoldable pub put_if : List ℕ → ℕ → ℕ → List ℕ
put_if s i v = put_where (leb (4 * i + 4) (length s)) s i v

unfoldable pub puts_if : List ℕ → ℕ → List ℕ → List ℕ
puts_if s i [] = s
puts_if s i (v ∷ vs) = puts_if (put_if s i v) (i + 1) vs

-- what the two questions tell of a chain: the place after it, and the output with the chain from a place on
pub record Told (l : List ℕ) (out : List ℕ) (i : ℕ) (out' : List ℕ) (r : ℕ) : Type 0 where
  pub place : r ≡ i + length l
  pub output : out' ≡ puts_if out i l

-- no chain has so many numbers: the start falls at each round, and it is of four bytes
abbrev pub most_rounds : ℕ
most_rounds = 8589934592
