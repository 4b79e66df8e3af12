-- What the check says of a file, by what is read of it. Assumes nothing.
use Prim.Native.Nat.{ℕ}
use mathlib.Core.Path.{◌≡◌, sym, ap}
use mathlib.Core.List.{List}
use Rattle.model.specs.Model.{Run}
use Rattle.model.specs.File.{refused, whole, read}
use Rattle.model.specs.Answers.{refusal}
use Rattle.model.specs.Compute.Verdict.{verdict, check, check_of}

pub check_whole : (b : List ℕ) (ρ : Run) → read b ≡ whole ρ → verdict ρ ≡ check b
unfolding check
check_whole b ρ e = sym (ap check_of e)

pub check_refused : (b : List ℕ) (ν i : ℕ) → read b ≡ refused ν i → refusal ν i ≡ check b
unfolding check
check_refused b ν i e = sym (ap check_of e)
