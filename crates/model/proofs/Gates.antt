-- The gates of what a tool says and writes: each is passed exactly if its test is. And what it leaves, of what its outcome is. Assumes
-- nothing.
use Prim.Native.Nat.{ℕ}
use mathlib.Core.Path.{◌≡◌, refl, sym, ◌∙◌, ap}
use mathlib.Core.Bool.{Bool, true, false, false≢true, true≢false}
use native.Mathlib.Omega.{arith}
use mathlib.Core.List.{List}
use Rattle.model.specs.Answers.{Five, Outcome, refusal, refused_with, gate_outcome}
use Rattle.model.specs.Calls.{front, Leaves}

pub gate_opens : (ν : ℕ) (t : Bool) (o p : Outcome) → t ≡ true → o ≡ p → gate_outcome ν t o ≡ p
unfolding gate_outcome
gate_opens ν true o p e q = q
gate_opens ν false o p e q = absurd (false≢true e)

pub gate_closes : (ν : ℕ) (t : Bool) (o : Outcome) → t ≡ false → gate_outcome ν t o ≡ refused_with ν 0
unfolding gate_outcome
gate_closes ν true o e = absurd (true≢false e)
gate_closes ν false o e = refl

pub gate_opened : (ν : ℕ) (t : Bool) (o : Outcome) → (gate_outcome ν t o).told.answer ≡ 5 → (t ≡ true) × (o.told.answer ≡ 5)
unfolding gate_outcome
gate_opened ν true o e = (refl, e)
gate_opened ν false o e = absurd (omega arith)

-- what is told and left, of what the outcome is
pub leaves : {o p : Outcome} (output after : List ℕ) {f : Five} → o ≡ p → f ≡ p.told → after ≡ front p.writes output → Leaves o output f after
leaves output after e f w = (f ∙ ap (λ x. x.told) (sym e), w ∙ ap (λ x. front x.writes output) (sym e))

pub leaves_refused : {o : Outcome} (output : List ℕ) {ν i : ℕ} → o ≡ refused_with ν i → Leaves o output (refusal ν i) output
leaves_refused output e = leaves output output e refl refl
