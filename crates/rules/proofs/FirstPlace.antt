-- What `position` says of the numbers of a range is what `first` finds. Assumes nothing.
use Rattle.std.specs.List.{position_from, range_with_len}
use Prim.Native.Nat.{ℕ, zero, suc, ◌+◌}
use mathlib.Core.Path.{◌≡◌, refl, ◌∙◌, ap}
use mathlib.Core.Bool.{Bool, true, false}
use native.Mathlib.Numerals.{add-one}
use Rattle.base.specs.Find.{first}

pub position_first : (p : ℕ → Bool) (n i : ℕ) → position_from p i (range_with_len i n) ≡ first p i n
unfolding first
position_first p zero i = refl
position_first p (suc n) i = go (p i) refl (position_first p n (i + 1))
  where
    go : (b : Bool) → p i ≡ b → position_from p (i + 1) (range_with_len (i + 1) n) ≡ first p (i + 1) n
        → position_from p i (range_with_len i (suc n)) ≡ first p i (suc n)
    go true e h = rw (e, first) refl
    go false e h = rw (e, first) (h ∙ ap (λ k. first p k n) (add-one i))
