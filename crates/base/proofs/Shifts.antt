-- Digits that are joined by shifts and ors are their sum, whatever their width and their number. Assumes nothing.
use Prim.Native.Nat.{ℕ, suc, ◌+◌, ◌*◌, ◌%◌, ◌^◌, ◌≤◌, ◌<◌}
use mathlib.Core.Path.{◌≡◌, refl, sym, ◌∙◌, ap, subst}
use mathlib.Core.List.{List, [], ◌∷◌}
use native.Mathlib.Nat.{lt_of_le_of_lt, mul_comm, mul-suc}
use native.Mathlib.Omega.{arith}
use lib.Arith.{digits_lt}
use lib.Bits.{bit_and, bit_or, and_le_r, or_shifted_r}
use lib.ListN.{length}
use lib.Pow.{pow-add, shl_exact}

-- a number of k bits and after it digits of w bits, lowest first, joined in n bits: low | d << k | e << w + k | ..
abbrev pub joined : (w n k low : ℕ) → List ℕ → ℕ
joined w n k low [] = low
joined w n k low (d ∷ ds) = joined w n (w + k) (bit_or low (d * 2 ^ k % 2 ^ n)) ds

-- the same as a sum: low + 2 ^ k * d + 2 ^ (w + k) * e + ..
abbrev pub summed : (w k low : ℕ) → List ℕ → ℕ
summed w k low [] = low
summed w k low (d ∷ ds) = summed w (w + k) (low + 2 ^ k * d) ds

abbrev pub Digits : ℕ → List ℕ → Type 0
Digits w [] = Unit {0}
Digits w (d ∷ ds) = (d < 2 ^ w) × Digits w ds

-- nothing is lost as long as all digits fit
pub joined_is_sum : (w n k low : ℕ) (ds : List ℕ) → low < 2 ^ k → Digits w ds → w * length ds + k ≤ n → joined w n k low ds ≡ summed w k low ds
joined_is_sum w n k low [] l hs fits = refl
joined_is_sum w n k low (d ∷ ds) l (h, hs) fits =
    let all : w * suc (length ds) ≡ w * length ds + w = mul-suc w (length ds) in
    let swapped : d * 2 ^ k ≡ 2 ^ k * d = mul_comm d (2 ^ k) in
    let below : d * 2 ^ k + low < 2 ^ (w + k) = subst (λ x. d * 2 ^ k + low < x) (sym (pow-add 2 w k)) (digits_lt h l) in
    let added : bit_or low (d * 2 ^ k % 2 ^ n) ≡ low + 2 ^ k * d =
    ap (bit_or low) (shl_exact {a = d} w k n h (omega arith)) ∙ or_shifted_r d k low l ∙ omega arith in
    rw added (joined_is_sum w n (w + k) (low + 2 ^ k * d) ds (omega arith) hs (omega arith))

-- what a mask leaves is no greater than the mask
pub masked : (n m : ℕ) → m < 256 → bit_and n m < 256
masked n m h = lt_of_le_of_lt (and_le_r n m) h
