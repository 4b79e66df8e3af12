-- What is said of the run that a file tells.
use Rattle.std.specs.Prelude.{ℕ, ◌≡◌, Bool, List, leb}
use Rattle.model.specs.declared.answer.Answer.{Answer}
use Rattle.model.specs.Answers.{five_of}
use Rattle.model.specs.Compute.Verdict.{verdict}
use Rattle.openfile.specs.Head.{run_in}

abbrev pub Judges : List ℕ → Answer → Type 0
Judges b a = five_of a ≡ verdict (run_in b)

-- whether it is accepted
abbrev pub Accepts : List ℕ → Bool → Type 0
Accepts b t = t ≡ leb (verdict (run_in b)).answer 2
