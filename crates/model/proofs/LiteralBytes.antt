-- Document 01: "All numbers are unsigned, four bytes, low byte first." Files written byte by byte, as no function of these definitions
-- writes them; one table under a single statement. Assumes nothing.
use Prim.Native.Nat.{ℕ}
use mathlib.Core.Path.{◌≡◌, refl}
use mathlib.Core.List.{List, [], ◌∷◌, ◌++◌, map}
use Rattle.model.specs.Answers.{five, Outcome}
use Rattle.model.proofs.Worked.{Call, checks, carries, outcome, computed_carry, told, wrote}

abbrev Four : Type 0
Four = ℕ × ℕ × ℕ × ℕ

abbrev listed : Four → List ℕ
listed (w, x, y, z) = w ∷ x ∷ y ∷ z ∷ []

-- 1 and 1,000,000, which is 64 + 66 * 256 + 15 * 65,536
abbrev one : Four
one = (1, 0, 0, 0)

abbrev million : Four
million = (64, 66, 15, 0)

-- These four bytes as the setting's count, and as H; N 1, one task: P 1, B 1, W 1, O 1,000,000, J 0; no record.
abbrev literal : Four → Four → List ℕ
literal count H =
    listed count ++ listed one ++ listed H ++ listed one
    ++ listed one ++ listed one ++ listed one ++ listed million ++ (0 ∷ 0 ∷ 0 ∷ 0 ∷ [])
    ++ (0 ∷ 0 ∷ 0 ∷ 0 ∷ [])

abbrev pub table : List (Call × Outcome)
table =
    -- each byte of H
    (checks (literal (2, 0, 0, 0) one), told (five 0 0 0 0 0))
    ∷ (checks (literal (2, 0, 0, 0) million), told (five 0 0 0 0 0))
    ∷ (checks (literal (2, 0, 0, 0) (65, 66, 15, 0)), told (five 4 3 0 0 0))
    ∷ (checks (literal (2, 0, 0, 0) (64, 67, 15, 0)), told (five 4 3 0 0 0))
    ∷ (checks (literal (2, 0, 0, 0) (64, 66, 16, 0)), told (five 4 3 0 0 0))
    ∷ (checks (literal (2, 0, 0, 0) (64, 66, 15, 1)), told (five 4 3 0 0 0))
    -- the setting's count is 2
    ∷ (checks (literal (1, 0, 0, 0) one), told (five 4 2 0 0 0))
    ∷ (checks (literal (3, 0, 0, 0) one), told (five 4 2 0 0 0))
    ∷ (checks (literal (2, 1, 0, 0) one), told (five 4 2 0 0 0))
    ∷ (checks (literal (2, 0, 0, 1) one), told (five 4 2 0 0 0))
    -- what a carry from 999,999 to 1,000,000 writes
    ∷ (carries (literal (2, 0, 0, 0) (63, 66, 15, 0)) 1000000 40, wrote 40 (literal (2, 0, 0, 0) million))
    ∷ []

pub low_byte_first : map (λ row. outcome row.0) table ≡ map (λ row. row.1) table
unfolding computed_carry
low_byte_first = refl
