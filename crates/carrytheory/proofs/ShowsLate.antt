-- 1 is said exactly of a run that obeys the rules and in which a late job begins before H. Assumes nothing.
use Prim.Native.Nat.{ℕ}
use mathlib.Core.Path.{◌≡◌, refl}
use mathlib.Core.Logic.{◌↔◌}
use native.Mathlib.Omega.{arith}
use Rattle.model.specs.Model.{Run, IsRecord}
use Rattle.model.specs.Rules.{Obeys}
use Rattle.model.specs.Answers.{Five, Late, BeginsBeforeH, Verdict}
use Rattle.model.specs.Compute.Verdict.{verdict}
use Rattle.model.proofs.Places.{holds_nowhere}
use Rattle.model.proofs.Verdict.{verdict_iff}

module _ (ρ : Run) where
  -- a late job that begins before H
  abbrev pub Shown : Type 0
  Shown = (k : ℕ) × IsRecord ρ k × Late ρ k × BeginsBeforeH ρ k

  shown_row : (f : Five) → Verdict ρ f → f.answer ≡ 1 → Obeys ρ × Shown
  shown_row f (Verdict.in_time_row O h) e = absurd (omega arith)
  shown_row f (Verdict.late_before_H_row {k = k} O N F) e = (O, (k, F.here.0, F.here.1, F.here.2))
  shown_row f (Verdict.late_from_H_row O N h F) e = absurd (omega arith)
  shown_row f (Verdict.rule_broken_row ν L F) e = absurd (omega arith)

  row_shown : (f : Five) → Verdict ρ f → Obeys ρ × Shown → f.answer ≡ 1
  row_shown f (Verdict.in_time_row P g) (O, (k, h, l, b)) = absurd (g k h l)
  row_shown f (Verdict.late_before_H_row P N F) S = refl
  row_shown f (Verdict.late_from_H_row P N g F) (O, (k, h, l, b)) = absurd (g k h l b)
  row_shown f (Verdict.rule_broken_row ν L F) (O, S) = absurd ((holds_nowhere ν ρ).0 (O ν) _ F.here)

  pub one_exactly_if_shown : ((verdict ρ).answer ≡ 1) ↔ (Obeys ρ × Shown)
  one_exactly_if_shown = let v = (verdict_iff ρ (verdict ρ)).0 refl in (shown_row (verdict ρ) v, row_shown (verdict ρ) v)
