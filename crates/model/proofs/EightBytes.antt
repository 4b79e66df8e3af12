-- Sums of products of four-byte numbers fit eight bytes. Assumes nothing.
use Prim.Native.Nat.{ℕ, ◌+◌, ◌*◌, ◌^◌, ◌≤◌, ◌<◌}
use native.Mathlib.Nat.{mul-le-mul}
use native.Mathlib.Omega.{arith}

-- a (2^32 - 1) + 2^32 - 1 with a ≤ 2^32 is at most 2^64 - 1
pub product_fits : (a p o : ℕ) → a ≤ 2 ^ 32 → p < 2 ^ 32 → o < 2 ^ 32 → a * p + o < 2 ^ 64
product_fits a p o ha hp ho =
    let top : a * p ≤ 4294967296 * 4294967295 = mul-le-mul {n₂ = 4294967296} {m₂ = 4294967295} ha (omega arith) in
    omega arith
