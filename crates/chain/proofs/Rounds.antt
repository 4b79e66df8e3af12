-- From one round of the chain to the next: the cause that is found is the cause, it is in the table, and its start is lower. Assumes nothing.
use Rattle.std.specs.Prelude.{None, Option, Some}
use Prim.Native.Nat.{ℕ, ◌<◌}
use mathlib.Core.Path.{◌≡◌, sym, ◌∙◌, subst}
use mathlib.Core.Bool.{Bool, true, false}
use mathlib.Core.List.{List}
use native.Mathlib.Omega.{arith}
use Rattle.base.proofs.Find.{some≢none}
use Rattle.model.specs.Model.{Run, WithinLimits, IsRecord}
use Rattle.causes.specs.Cause.{AtRelease, Cause}
use Rattle.causes.specs.FoundCause.{at_release, cause_of}
use Rattle.causes.proofs.WhoseEnd.{says_at_release, has_cause, cause_found, cause_earlier}
use Rattle.chain.specs.ChainTold.{Traced, start_in}

module _ {ρ : Run} {t : List ℕ} {n : ℕ} (T : Traced ρ t n) where
  pub traced_limits : WithinLimits ρ
  traced_limits = T.table.limits

  module _ {k : ℕ} (l : k < n) where
    pub traced_record : IsRecord ρ k
    traced_record = omega (arith, T.table.count)

    pub cause_is : {j : ℕ} {o : Option ℕ} → ¬ AtRelease ρ k → o ≡ cause_of ρ k → o ≡ Some j → Cause ρ k j
    cause_is {j} late e q =
        let (i, C) = has_cause ρ traced_limits T.obeys k traced_record late in
        let w : Some i ≡ Some j = sym (cause_found ρ traced_limits T.obeys C) ∙ sym e ∙ q in
        let z : i ≡ j = cc in
        subst (Cause ρ k) z C

    pub start_falls : {j : ℕ} → Cause ρ k j → (j < n) × (start_in t n j < start_in t n k)
    start_falls {j} C =
        let (r, q, s) = cause_earlier ρ traced_limits T.obeys C in
        let h : j < n = omega (arith, T.table.count, r) in
        (h, omega (arith, s, T.table.number 3 j (omega arith) h, T.table.number 3 k (omega arith) l))

  -- a cause is found
  pub cause_lost : {k j : ℕ} {o : Option ℕ} → o ≡ cause_of ρ k → o ≡ None → ¬ Cause ρ k j
  cause_lost e q C = some≢none (sym (cause_found ρ traced_limits T.obeys C) ∙ sym e ∙ q)

-- what a test of the release says
module _ (ρ : Run) (k : ℕ) {b : Bool} (e : b ≡ at_release ρ k) where
  pub started_then : b ≡ true → AtRelease ρ k
  started_then q = (says_at_release ρ k).sound (sym e ∙ q)

  pub started_later : b ≡ false → ¬ AtRelease ρ k
  started_later q = (says_at_release ρ k).refutes (sym e ∙ q)
