-- The rules in order: one equation for a rule that is broken, one for a rule that holds, for any list of rules. Assumes nothing.
use Rattle.std.specs.Prelude.{None, Option, Some, option_map}
use Prim.Native.Nat.{ℕ, suc, ◌+◌, ◌-◌, ◌≤◌}
use mathlib.Core.Path.{◌≡◌, refl, sym, ◌∙◌, ap}
use native.Mathlib.Numerals.{add-one}
use native.Mathlib.Omega.{arith}
use lib.ListN.{length}
use Rattle.base.specs.Find.{first_of}
use Rattle.base.proofs.Find.{first_of_yes, first_of_no}
use Rattle.model.specs.Model.{Run}
use Rattle.model.specs.Rules.{Place, rule, in_order}
use Rattle.model.specs.Answers.{rule_broken}
use Rattle.model.specs.Compute.Places.{find, lowest}
use Rattle.model.specs.Compute.Verdict.{timely, verdict, verdict_of}
use Rattle.verdict.specs.RulesFrom.{verdict_from}

module _ (ρ : Run) where
  pub verdict_first : verdict ρ ≡ verdict_from 1 ρ
  unfolding verdict verdict_from lowest
  verdict_first = refl

  pub verdict_last : verdict_from (suc (length in_order)) ρ ≡ timely ρ
  unfolding verdict_from first_of
  verdict_last = refl

  -- what is said from rule ν on, where so many rules come after it
  abbrev From : ℕ → ℕ → Option (ℕ × Place)
  From ν n = first_of (λ μ. find (rule μ) ρ) ν n

  from_here : (ν : ℕ) → ν ≤ length in_order → verdict_from ν ρ ≡ verdict_of (From ν (suc (length in_order - ν))) ρ
  unfolding verdict_from
  from_here ν l = let e : suc (length in_order) - ν ≡ suc (length in_order - ν) = omega arith in ap (λ n. verdict_of (From ν n) ρ) e

  pub held : (ν : ℕ) → ν ≤ length in_order → find (rule ν) ρ ≡ None → verdict_from ν ρ ≡ verdict_from (ν + 1) ρ
  unfolding verdict_from
  held ν l e =
      let z : length in_order - ν ≡ suc (length in_order) - (ν + 1) = omega arith in
      from_here ν l
      ∙ ap (λ w. verdict_of w ρ) (first_of_no (λ μ. find (rule μ) ρ) ν (length in_order - ν) e)
      ∙ (λ κ. verdict_of (From (sym (add-one ν) κ) (z κ)) ρ)

  -- o is what the search of a rule found, and name makes a place of it
  module _ {A : Type 0} (name : A → Place) {o : Option A} (ν : ℕ) (l : ν ≤ length in_order) (e : option_map name o ≡ find (rule ν) ρ) where
    pub broken : {x : A} → o ≡ Some x → rule_broken ν (name x) ≡ verdict_from ν ρ
    broken {x} h =
        sym (from_here ν l ∙ ap (λ w. verdict_of w ρ) (first_of_yes (λ μ. find (rule μ) ρ) ν (length in_order - ν) (name x) (sym e ∙ ap (option_map name) h)))

    pub passed : o ≡ None → verdict_from ν ρ ≡ verdict_from (ν + 1) ρ
    passed h = held ν l (sym e ∙ ap (option_map name) h)

-- of any such run, the rules from μ up to ν hold
abbrev pub Past : (Run → Type 0) → ℕ → ℕ → Type 0
Past Such μ ν = (ρ : Run) → Such ρ → verdict_from μ ρ ≡ verdict_from ν ρ
