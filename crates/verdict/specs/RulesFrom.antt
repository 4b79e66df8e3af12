-- What is said of a run when the rules below ν have been found to hold.
use Rattle.std.specs.Prelude.{ℕ, suc, ◌-◌, length}
use Rattle.base.specs.Find.{first_of}
use Rattle.model.specs.Model.{Run}
use Rattle.model.specs.Rules.{rule, in_order}
use Rattle.model.specs.Answers.{Five}
use Rattle.model.specs.Compute.Places.{find}
use Rattle.model.specs.Compute.Verdict.{verdict_of}

unfoldable pub verdict_from : ℕ → Run → Five
verdict_from ν ρ = verdict_of (first_of (λ μ. find (rule μ) ρ) ν (suc (length in_order) - ν)) ρ
