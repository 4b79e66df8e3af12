-- What is answered of a file and a record, one law for each answer: the file's own refusals, 10, 20, and then what the chain comes to.
-- Assumes nothing.
use Prim.Native.Nat.{ℕ, ◌<◌}
use mathlib.Core.Path.{◌≡◌, sym, ◌∙◌, subst}
use mathlib.Core.Bool.{Bool, true, false, not}
use mathlib.Core.List.{List}
use native.Mathlib.Omega.{arith}
use borrow.Author.Tests.{not-true, not-false}
use lib.Dec.{leb, ltb}
use lib.ListN.{length}
use Rattle.base.proofs.Test.{says_ltb}
use Rattle.model.specs.Answers.{Five, refusal}
use Rattle.model.specs.Calls.{Leaves}
use Rattle.model.specs.Compute.Verdict.{verdict}
use Rattle.model.specs.File.{read, refused}
use Rattle.model.specs.Model.{Run}
use Rattle.model.specs.Rules.{Obeys}
use Rattle.model.proofs.Gates.{leaves_refused}
use Rattle.openfile.specs.declared.head.Head.{Head}
use Rattle.openfile.specs.Head.{Tells}
use Rattle.openfile.proofs.WholeOrRefused.{tells_count}
use Rattle.causes.specs.FoundCause.{chain_of}
use Rattle.causes.specs.Why.{chain_room}
use Rattle.causes.proofs.WhyAnswers.{says_obeys, why_refused, why_breaks, why_absent, why_there}
use Rattle.whyfile.specs.ReasonLeft.{Reasons}

pub says_own : (b : List ℕ) (k : ℕ) (output : List ℕ) (ν i : ℕ) → read b ≡ refused ν i → Reasons b k output (refusal ν i) output
says_own b k output ν i e = leaves_refused output (why_refused b k (length output) e)

-- an answer with the same five numbers
pub told_so : (b : List ℕ) (k : ℕ) (output after : List ℕ) (f g : Five) → Reasons b k output f after → g ≡ f → Reasons b k output g after
told_so b k output after f g R e = subst (λ f. Reasons b k output f after) (sym e) R

module _ {b : List ℕ} {h : Head} {ρ : Run} (T : Tells b h ρ) {t : Bool} (e : t ≡ leb (verdict ρ).answer 2) where
  pub obeys : not t ≡ false → Obeys ρ
  obeys n = (says_obeys ρ).sound (sym e ∙ not-false _ n)

  module _ (k : ℕ) (output : List ℕ) where
    pub says_10 : not t ≡ true → Reasons b k output (refusal 10 0) output
    says_10 n = leaves_refused output (why_breaks b k (length output) T.reads ((says_obeys ρ).refutes (sym e ∙ not-true _ n)))

    pub says_20 : not t ≡ false → not (ltb k h.records) ≡ true → Reasons b k output (refusal 20 0) output
    says_20 n m =
        let f : ¬ (k < h.records) = (says_ltb k h.records).refutes (not-true _ m) in
        leaves_refused output (why_absent b k (length output) T.reads (obeys n) (λ l. f (omega (arith, tells_count T))))

    pub says_chain : not t ≡ false → k < h.records → {f : Five} {after : List ℕ}
        → Leaves (chain_room (chain_of ρ k) (length output)) output f after → Reasons b k output f after
    says_chain n l {f} {after} L =
        subst (λ o. Leaves o output f after) (sym (why_there b k (length output) T.reads (obeys n) (omega (arith, tells_count T)))) L

-- a record that is known
pub known : (k n : ℕ) → not (ltb k n) ≡ false → k < n
known k n m = (says_ltb k n).sound (not-false _ m)
