-- What is told of a file and a record, and what stands in the output after it.
use Rattle.std.specs.Prelude.{ℕ, List, length}
use Rattle.model.specs.Answers.{Five}
use Rattle.model.specs.Calls.{Leaves}
use Rattle.causes.specs.Why.{why}

-- what is told and what is written are those of the question why
abbrev pub Reasons : List ℕ → ℕ → List ℕ → Five → List ℕ → Type 0
Reasons b k output f after = Leaves (why b k (length output)) output f after
