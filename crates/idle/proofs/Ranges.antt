-- What `any` and `find` say of the numbers of a range is what the finders find. Assumes nothing.
use Rattle.std.specs.Prelude.{Option, Some}
use Rattle.std.specs.List.{find, list_any, range_with_len}
use Rattle.std.specs.Range.{range_inclusive_steps, range_inclusive_left, range_inclusive_len, range_inclusive_start, range_inclusive_end, range_inclusive_exhausted}
use Rattle.std.specs.declared.ops.RangeInclusive.{RangeInclusive}
use Rattle.std.proofs.lemmas.Iterator.{YieldsList}
use Rattle.std.proofs.lemmas.Iterator.Consumers.{YieldsList-from_shown}
use Rattle.std.proofs.lemmas.List.FromFn.{length-range_with_len}
use Prim.Native.Nat.{ℕ, zero, suc, ◌+◌, ◌-◌}
use mathlib.Core.Path.{◌≡◌, refl, sym, ◌∙◌, ap}
use mathlib.Core.Bool.{Bool, true, false}
use mathlib.Core.List.{List, ◌∷◌}
use native.Mathlib.Numerals.{add-one}
use native.Mathlib.Omega.{arith}
use Rattle.base.specs.Find.{first, found}

module _ (p : ℕ → Bool) where
  pub find_first : (n i : ℕ) → find p (range_with_len i n) ≡ first p i n
  unfolding first
  find_first zero i = refl
  find_first (suc n) i = go (p i) refl (find_first n (i + 1))
    where
      go : (b : Bool) → p i ≡ b → find p (range_with_len (i + 1) n) ≡ first p (i + 1) n → find p (range_with_len i (suc n)) ≡ first p i (suc n)
      go true e h = rw (e, first) refl
      go false e h = rw (e, first) (h ∙ ap (λ k. first p k n) (add-one i))

  pub any_first : (n i : ℕ) → list_any p (range_with_len i n) ≡ found (first p i n)
  unfolding first
  any_first zero i = refl
  any_first (suc n) i = go (p i) refl (any_first n (i + 1))
    where
      go : (b : Bool) → p i ≡ b → list_any p (range_with_len (i + 1) n) ≡ found (first p (i + 1) n) → list_any p (range_with_len i (suc n)) ≡ found (first p i (suc n))
      go true e h = rw (e, first) refl
      go false e h = rw (e, first) (h ∙ ap (λ k. found (first p k n)) (add-one i))

-- what `a..=b` has left
abbrev pub left : RangeInclusive ℕ → ℕ
left s = range_inclusive_left (λ a b. b - a) s

abbrev pub numbers : RangeInclusive ℕ → List ℕ
numbers s = range_with_len (range_inclusive_start s) (left s)

abbrev pub inclusive_steps : RangeInclusive ℕ → Option ℕ → RangeInclusive ℕ → Type 0
inclusive_steps = range_inclusive_steps (λ a b. b - a) (λ a b. b ≡ a + 1)

one_more : (i n : ℕ) → range_with_len i (n + 1) ≡ i ∷ range_with_len (i + 1) n
one_more i n = rw (add-one n) refl

goes_on : (s : RangeInclusive ℕ) (x : ℕ) (t : RangeInclusive ℕ) → inclusive_steps s (Some x) t → numbers s ≡ x ∷ numbers t
goes_on s x t (e, (h, l, f)) = rw (h, ← l) (go (range_inclusive_exhausted t) f)
  where
    m : Bool → ℕ
    m = range_inclusive_len (λ a b. b - a) (range_inclusive_start t) (range_inclusive_end t)

    go : (b : Bool) → (b ≡ false → range_inclusive_start t ≡ range_inclusive_start s + 1)
        → range_with_len (range_inclusive_start s) (m b + 1) ≡ range_inclusive_start s ∷ range_with_len (range_inclusive_start t) (m b)
    go true f = refl
    go false f = one_more _ (m false) ∙ ap (λ i. range_inclusive_start s ∷ range_with_len i (m false)) (sym (f refl))

pub YieldsList-from_inclusive : (s : RangeInclusive ℕ) → YieldsList inclusive_steps (λ x. x) s (numbers s)
YieldsList-from_inclusive = YieldsList-from_shown inclusive_steps (λ x. x) numbers (λ s t e. rw length-range_with_len e.1.0) goes_on

-- `1..=n` before its first step
pub numbers_from_one : (s : RangeInclusive ℕ) (n : ℕ) → range_inclusive_start s ≡ 1 → range_inclusive_end s ≡ n → range_inclusive_exhausted s ≡ false
    → numbers s ≡ range_with_len 1 n
numbers_from_one s n a b c = rw (a, b, c) (ap (range_with_len 1) (omega arith))
