-- Demand 2 on definitions: accepted exactly if all rules hold; otherwise the lowest broken rule and its first place; the late
-- jobs counted exactly. Assumes nothing.
use Prim.Native.Nat.{◌≤◌, ◌<◌}
use mathlib.Core.Path.{◌≡◌, refl, sym, ◌∙◌, ap}
use mathlib.Core.Logic.{◌↔◌}
use native.Mathlib.Omega.{arith}
use lib.ListN.{length}
use Rattle.base.proofs.Count.{none_number}
use Rattle.model.specs.Model.{Run}
use Rattle.model.specs.Rules.{Rule, rule, Place, Holds, Obeys, FirstPlace}
use Rattle.model.specs.Answers.{Five, number, Late, LateRecords, rule_broken, Verdict}
use Rattle.model.specs.Compute.Verdict.{verdict}
use Rattle.model.proofs.Places.{holds_nowhere}
use Rattle.model.proofs.Lowest.{Lowest, rule_number}
use Rattle.model.proofs.Verdict.{verdict_iff}

module _ (ρ : Run) where
  -- what an accepted run is told: the answer is 0, 1 or 2, and the code counts the late records
  accepted_row : (f : Five) → Verdict ρ f → f.answer ≤ 2 → Obeys ρ × LateRecords ρ f.code
  accepted_row f (Verdict.in_time_row O h) l = (O, none_number (Late ρ) (length ρ.records) h)
  accepted_row f (Verdict.late_before_H_row O N F) l = (O, N)
  accepted_row f (Verdict.late_from_H_row O N h F) l = (O, N)
  accepted_row f (Verdict.rule_broken_row ν L F) l = absurd (omega arith)

  obeyed_row : (f : Five) → Verdict ρ f → Obeys ρ → f.answer ≤ 2
  obeyed_row f (Verdict.in_time_row P h) O = omega arith
  obeyed_row f (Verdict.late_before_H_row P N F) O = omega arith
  obeyed_row f (Verdict.late_from_H_row P N h F) O = omega arith
  obeyed_row f (Verdict.rule_broken_row ν L F) O = absurd ((holds_nowhere ν ρ).0 (O ν) _ F.here)

  pub accepted_exactly_if_obeyed : ((verdict ρ).answer ≤ 2) ↔ Obeys ρ
  accepted_exactly_if_obeyed =
      let v = (verdict_iff ρ (verdict ρ)).0 refl in
      (λ h. (accepted_row (verdict ρ) v h).0, obeyed_row (verdict ρ) v)

  pub late_jobs_counted : Obeys ρ → LateRecords ρ (verdict ρ).code
  late_jobs_counted O = (accepted_row (verdict ρ) ((verdict_iff ρ (verdict ρ)).0 refl) (accepted_exactly_if_obeyed.1 O)).1

  broken_row : (f : Five) → Verdict ρ f → (ν : Rule) (p : Place) → f ≡ rule_broken (number ν) p → Lowest ρ ν p
  broken_row f (Verdict.in_time_row O h) ν p e = absurd (omega (arith, ap (λ g. g.answer) e))
  broken_row f (Verdict.late_before_H_row O N F) ν p e = absurd (omega (arith, ap (λ g. g.answer) e))
  broken_row f (Verdict.late_from_H_row O N h F) ν p e = absurd (omega (arith, ap (λ g. g.answer) e))
  broken_row f (Verdict.rule_broken_row {p = q} μ L F) ν p e =
      let n : number μ ≡ number ν = ap (λ g. g.code) e in
      let m : μ ≡ ν = sym (rule_number μ) ∙ ap rule n ∙ rule_number ν in
      let w : q ≡ p = ap (λ g. g.place) e in
      let l : Lowest ρ μ q = record { lower = L; place = F } in
      rw (m, w) at l

  pub lowest_broken_rule_named : (ν : Rule) (p : Place)
      → (verdict ρ ≡ rule_broken (number ν) p) ↔ (((μ : Rule) → number μ < number ν → Holds μ ρ) × FirstPlace ν ρ p)
  lowest_broken_rule_named ν p = (
    λ e. let L = broken_row (verdict ρ) ((verdict_iff ρ (verdict ρ)).0 refl) ν p e in (L.lower, L.place),
    λ h. (verdict_iff ρ (rule_broken (number ν) p)).1 (Verdict.rule_broken_row ν h.0 h.1),
  )

  -- and some rule is named whenever not all hold
  pub broken_rule_named : ¬ Obeys ρ → (ν : Rule) × (p : Place) × (verdict ρ ≡ rule_broken (number ν) p)
  broken_rule_named h = go (verdict ρ) ((verdict_iff ρ (verdict ρ)).0 refl)
    where
      go : (f : Five) → Verdict ρ f → (ν : Rule) × (p : Place) × (f ≡ rule_broken (number ν) p)
      go f (Verdict.in_time_row O g) = absurd (h O)
      go f (Verdict.late_before_H_row O N F) = absurd (h O)
      go f (Verdict.late_from_H_row O N g F) = absurd (h O)
      go f (Verdict.rule_broken_row {p = q} μ L F) = (μ, q, refl)
