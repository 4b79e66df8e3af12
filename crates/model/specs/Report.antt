-- Document 01, "The report program": it reads at most the first 16,384 bytes of standard input, checks them, and prints one line, the
-- five numbers in decimal, separated by one space, then a line feed.
use Rattle.std.specs.Prelude.{ℕ, zero, suc, ◌+◌, ◌/◌, ◌%◌, true, false, List, [], ◌∷◌, ◌++◌, ltb, take}
use Rattle.model.specs.Calls.{numbers}
use Rattle.model.specs.Compute.Verdict.{check}

abbrev pub most_read : ℕ
most_read = 16384

-- the digit of a number below ten
abbrev pub digit : ℕ → ℕ
digit v = 48 + v

-- at most n digits of a number in decimal, the highest first, without leading zeros
unfoldable pub decimal_in : ℕ → ℕ → List ℕ
decimal_in zero v = []
decimal_in (suc n) v = elim (ltb v 10) [ true ↦ digit v ∷ [] | false ↦ decimal_in n (v / 10) ++ (digit (v % 10) ∷ []) ]

-- a number of four bytes has at most ten digits
abbrev pub decimal : ℕ → List ℕ
decimal v = decimal_in 10 v

-- numbers separated by one byte each, then a line feed
abbrev pub line_by : ℕ → List ℕ → List ℕ
line_by c [] = 10 ∷ []
line_by c (v ∷ []) = decimal v ++ (10 ∷ [])
line_by c (v ∷ u ∷ vs) = decimal v ++ (c ∷ line_by c (u ∷ vs))

-- numbers separated by one space, then a line feed
abbrev pub line : List ℕ → List ℕ
line vs = line_by 32 vs

-- what is printed when these bytes are read
unfoldable pub report : List ℕ → List ℕ
report input = line (numbers (check (take most_read input)))
