-- The lowest broken rule and its first place. Assumes nothing.
use Rattle.std.specs.Prelude.{None, Some}
use Prim.Native.Nat.{ℕ, zero, suc, ◌+◌, ◌-◌, ◌≤◌, ◌<◌}
use mathlib.Core.Path.{◌≡◌, refl, sym, ◌∙◌, ap}
use mathlib.Core.Logic.{inl, inr, ◌↔◌}
use mathlib.Core.List.{List, [], ◌∷◌, map}
use native.Mathlib.Omega.{arith}
use lib.ListN.{length, get_or, get_or-map}
use Rattle.base.specs.First.{First, Lex}
use Rattle.base.proofs.Searches.{Finds, total_lex, finds_none, finds_some, first_of_finds}
use Rattle.model.specs.Model.{Run}
use Rattle.model.specs.Rules.{Rule, rule1, rule2, rule3, rule4, rule5, rule6, rule7, rule8, rule9, rule, in_order, Place, Before, Holds, Obeys, BrokenAt, FirstPlace}
use Rattle.model.specs.Answers.{number}
use Rattle.model.specs.Compute.Places.{find, lowest}
use Rattle.model.proofs.Places.{finds, holds_nowhere, total_place}

-- The rules and their numbers.
-- ----------------------------
pub rule_number : (ν : Rule) → rule (number ν) ≡ ν
rule_number rule1 = refl
rule_number rule2 = refl
rule_number rule3 = refl
rule_number rule4 = refl
rule_number rule5 = refl
rule_number rule6 = refl
rule_number rule7 = refl
rule_number rule8 = refl
rule_number rule9 = refl

pub number_range : (ν : Rule) → (1 ≤ number ν) × (number ν < 1 + length in_order)
number_range rule1 = omega arith
number_range rule2 = omega arith
number_range rule3 = omega arith
number_range rule4 = omega arith
number_range rule5 = omega arith
number_range rule6 = omega arith
number_range rule7 = omega arith
number_range rule8 = omega arith
number_range rule9 = omega arith

-- In order they have the numbers from 1 on.
abbrev up_from : ℕ → ℕ → List ℕ
up_from i zero = []
up_from i (suc n) = i ∷ up_from (suc i) n

at_up_from : (i n k d : ℕ) → k < n → get_or (up_from i n) k d ≡ i + k
at_up_from i zero k d h = absurd (omega arith)
at_up_from i (suc n) zero d h = omega arith
at_up_from i (suc n) (suc k) d h = at_up_from (suc i) n k d (omega arith) ∙ omega arith

in_numbers : map number in_order ≡ up_from 1 (length in_order)
in_numbers = refl

number_rule : (i : ℕ) → 1 ≤ i → i < 1 + length in_order → number (rule i) ≡ i
number_rule i h l =
    sym (get_or-map number in_order (i - 1) rule1)
    ∙ ap (λ ns. get_or ns (i - 1) (number rule1)) in_numbers
    ∙ at_up_from 1 (length in_order) (i - 1) (number rule1) (omega arith)
    ∙ omega arith

-- What `lowest` finds.
-- --------------------
module _ (ρ : Run) where
  -- rule i is broken at the place
  abbrev Broken : ℕ × Place → Type 0
  Broken q = (1 ≤ q.0) × (q.0 < 1 + length in_order) × BrokenAt (rule q.0) ρ q.1

  lowest_finds : Finds (Lex Before) Broken (lowest ρ)
  unfolding lowest
  lowest_finds = first_of_finds (λ ν. find (rule ν) ρ) (λ ν. BrokenAt (rule ν) ρ) (λ ν. finds (rule ν) ρ) 1 (length in_order)

  broken : (ν : Rule) (p : Place) → BrokenAt ν ρ p → Broken (number ν, p)
  broken ν p h = ((number_range ν).0, (number_range ν).1, rw (rule_number ν) h)

  -- none is broken exactly if all hold
  pub lowest_none : (lowest ρ ≡ None) ↔ Obeys ρ
  lowest_none = (
    λ e ν. (holds_nowhere ν ρ).1 (λ p h. (finds_none Broken (lowest ρ) lowest_finds).0 e (number ν, p) (broken ν p h)),
    λ O. (finds_none Broken (lowest ρ) lowest_finds).1 (λ q h. (holds_nowhere (rule q.0) ρ).0 (O (rule q.0)) q.1 h.2),
  )

  -- Rule ν is broken first at p, and no rule below it is broken.
  pub record Lowest (ν : Rule) (p : Place) : Type 0 where
    pub lower : (μ : Rule) → number μ < number ν → Holds μ ρ
    pub place : FirstPlace ν ρ p

  lowest_first : (ν : Rule) (p : Place) → Lowest ν p → First (Lex Before) Broken (number ν, p)
  lowest_first ν p L = record { here = broken ν p L.place.here; before = λ q b h. go q b h }
    where
      go : (q : ℕ × Place) → Lex Before q (number ν, p) → ¬ Broken q
      go (i, r) (inl l) (u, v, w) = (holds_nowhere (rule i) ρ).0 (L.lower (rule i) (rw (number_rule i u v) l)) r w
      go (i, r) (inr (e, b)) (u, v, w) = L.place.before r b (rw (ap rule e ∙ rule_number ν) at w)

  first_lowest : (i : ℕ) (p : Place) → First (Lex Before) Broken (i, p) → (ν : Rule) × (number ν ≡ i) × Lowest ν p
  first_lowest i p F =
      let (u, v, w) = F.here in
      let e = number_rule i u v in (
        rule i,
        e,
        record {
          lower = λ μ l. (holds_nowhere μ ρ).1 (λ r h. F.before (number μ, r) (inl (rw e at l)) (broken μ r h));
          place = record { here = w; before = λ r b h. F.before (i, r) (inr (refl, b)) (u, v, h) };
        },
      )

  pub lowest_some : (ν : Rule) (p : Place) → Lowest ν p → lowest ρ ≡ Some (number ν, p)
  lowest_some ν p L = (finds_some Broken (lowest ρ) lowest_finds (total_lex total_place) (number ν, p)).1 (lowest_first ν p L)

  pub some_lowest : (i : ℕ) (p : Place) → lowest ρ ≡ Some (i, p) → (ν : Rule) × (number ν ≡ i) × Lowest ν p
  some_lowest i p e = first_lowest i p ((finds_some Broken (lowest ρ) lowest_finds (total_lex total_place) (i, p)).0 e)
