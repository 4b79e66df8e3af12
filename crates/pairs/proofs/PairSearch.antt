-- What `find` finds along a range of numbers is the first of them that passes. Assumes nothing.
use Rattle.std.specs.Prelude.{None, Option, Some}
use Rattle.std.specs.Fn.{CalledAt}
use Rattle.std.specs.Iterator.{FindsItem}
use Rattle.std.specs.Option.{MatchOption}
use Rattle.std.specs.declared.ops.Range.{Range}
use Rattle.std.proofs.iter.Yields.{nat_range_steps}
use Rattle.std.proofs.lemmas.Iterator.{first_from_Range}
use denote.Param.Members.{Mut}
use denote.Ref.{Bor}
use Prim.Native.Nat.{ℕ, ◌+◌, ◌-◌, ◌≤◌, ◌<◌}
use mathlib.Core.Path.{◌≡◌, sym}
use mathlib.Core.Bool.{Bool, true, false}
use native.Mathlib.Omega.{arith}
use Rattle.base.specs.Find.{first}
use Rattle.base.proofs.Loop.{first_hit, first_miss}

module _ (p : ℕ → Bool) where
  least : (i n : ℕ) (o : Option ℕ) → MatchOption o ((k : ℕ) → i ≤ k → k < n → p k ≡ false)
      (λ j. (i ≤ j) × (j < n) × (p j ≡ true) × ((k : ℕ) → i ≤ k → k < j → p k ≡ false)) → o ≡ first p i (n - i)
  least i n None f = first_miss p i (n - i) {k = i + (n - i)} (omega arith) (record { below = λ j u v. f j u (omega arith) })
  least i n (Some j) (l, h, e, f) = first_hit p i (n - i) l (omega arith) (record { below = f }) e

  pub first_found : {F : Type 0} {g : Mut F (Bor ℕ × Unit {0}) Bool} {i m : ℕ} (s u : Range ℕ) (f : F) (o : Option ℕ) → FindsItem nat_range_steps g s f o u
      → ((x : ℕ) (b : Bool) (q : F) → CalledAt g f x b q → (q ≡ f) × (b ≡ p x)) → i ≡ s.start → m ≡ s.end - s.start → o ≡ first p i m
  first_found s u f o ran h v w =
      rw (v, w) (least s.start s.end o (first_from_Range s u f o (λ k. p k ≡ true) (λ k. p k ≡ false) ran (λ x q k. sym (h x true q k).1) (λ x q k. ((h x false q k).0, sym (h x false q k).1))))
