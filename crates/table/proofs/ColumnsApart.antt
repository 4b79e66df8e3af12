-- Where a column stands, and where a row in it: each place of a table is that of one column and one row. Assumes nothing.
use Prim.Native.Nat.{ℕ, zero, suc, ◌+◌, ◌*◌, ◌/◌, ◌%◌, ◌≤◌, ◌<◌}
use mathlib.Core.Path.{◌≡◌, sym}
use native.Mathlib.Nat.{mul-zero, mod-lt, div-add-mod', div-lt_iff_lt-mul}
use native.Mathlib.Omega.{arith}
use Rattle.std.proofs.lemmas.Nat.{same_from_place, column_fits_turned}

pub column_within : (m j n : ℕ) → j < m → j * n + n ≤ m * n
column_within m j n h = omega (arith, column_fits_turned n j m n h (omega arith))

-- two places are the same only if their columns and their rows are
pub same_column : (n j k i l : ℕ) → k < n → l < n → j * n + k ≡ i * n + l → j ≡ i
same_column n j k i l h r e = (same_from_place j k i l n h r e).0

pub same_row : (n j k i l : ℕ) → k < n → l < n → j * n + k ≡ i * n + l → k ≡ l
same_row n j k i l h r e = (same_from_place j k i l n h r e).1

-- the column and the row of a place
pub record At (m n p : ℕ) : Type 0 where
  pub column : ℕ
  pub row : ℕ
  pub column_in : column < m
  pub row_in : row < n
  pub place : p ≡ column * n + row

pub at : (m n p : ℕ) → p < m * n → At m n p
at m zero p h = absurd (omega (arith, mul-zero m))
at m (suc n) p h =
    record {
      column = p / suc n;
      row = p % suc n;
      column_in = (div-lt_iff_lt-mul {k = suc n} {x = p} {y = m} (omega arith)).1 h;
      row_in = mod-lt p (omega arith);
      place = sym (div-add-mod' p (suc n));
    }
