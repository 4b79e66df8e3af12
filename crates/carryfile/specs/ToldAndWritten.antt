-- What the carry of a file tells, and what stands in the output after it.
use Rattle.std.specs.Prelude.{ℕ, List, length}
use Rattle.model.specs.Answers.{Five}
use Rattle.model.specs.Calls.{Leaves}
use Rattle.model.specs.Carry.{carry}

-- what is told and what is written are those of the carry
abbrev pub Carries : List ℕ → ℕ → List ℕ → Five → List ℕ → Type 0
Carries b H' output f after = Leaves (carry b H' (length output)) output f after
