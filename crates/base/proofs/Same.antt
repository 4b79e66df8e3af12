-- Finders and counts that agree where they look find and count the same. Assumes nothing.
use Rattle.std.specs.Prelude.{None, Option, Some}
use Prim.Native.Nat.{ℕ, zero, suc, ◌+◌, ◌<◌}
use mathlib.Core.Path.{◌≡◌, refl}
use mathlib.Core.Bool.{Bool, true, false}
use native.Mathlib.Omega.{arith}
use Rattle.base.specs.Find.{first, first_of, count, tally}

module _ (p q : ℕ → Bool) where
  pub first_same : (n i : ℕ) → ((k : ℕ) → k < i + n → p k ≡ q k) → first p i n ≡ first q i n
  unfolding first
  first_same zero i e = refl
  first_same (suc n) i e = λ κ. elim (e i (omega arith) κ) [ true ↦ Some i | false ↦ first_same n (suc i) (λ k l. e k (omega arith)) κ ]

  pub count_same : (n : ℕ) → ((k : ℕ) → k < n → p k ≡ q k) → count p n ≡ count q n
  unfolding count
  count_same zero e = refl
  count_same (suc n) e = λ κ. tally (e n (omega arith) κ) (count_same n (λ k l. e k (omega arith)) κ)

pub first_of_same : {A : Type 0} (f g : ℕ → Option A) (n i : ℕ) → ((k : ℕ) → k < i + n → f k ≡ g k) → first_of f i n ≡ first_of g i n
unfolding first_of
first_of_same f g zero i e = refl
first_of_same f g (suc n) i e =
    λ κ. elim (e i (omega arith) κ) [ Some x ↦ Some (i, x) | None ↦ first_of_same f g n (suc i) (λ k l. e k (omega arith)) κ ]
