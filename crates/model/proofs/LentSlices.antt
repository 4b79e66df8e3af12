-- Document 01, "What the checker says": what a call returns, and the full contents of every lent slice afterwards. Two tables, each under
-- a single statement. Assumes nothing.
use Prim.Native.Nat.{ℕ, zero, suc}
use mathlib.Core.Path.{◌≡◌, refl}
use mathlib.Core.List.{List, [], ◌∷◌, ◌++◌, map}
use Rattle.model.specs.Calls.{numbers, written, CheckCall, check_call, OutputCall, output_call, carry_call}
use Rattle.model.proofs.Worked.{file, computed, computed_carry}

-- a slice of n bytes, no two of them alike: n, n - 1, .., 1
abbrev lent : ℕ → List ℕ
lent zero = []
lent (suc n) = suc n ∷ lent n

-- Rule 8 is broken by record 1 at instant 300, which is 44 + 256, on core 2.
abbrev idling : List ℕ
idling =
    file 2 301 (2 ∷ 1000 ∷ 1 ∷ 400 ∷ 0 ∷ 0 ∷ 1000 ∷ 1 ∷ 1 ∷ 300 ∷ 0 ∷ [])
    (2 ∷ 0 ∷ 0 ∷ 0 ∷ 0 ∷ 310 ∷ 1 ∷ 1 ∷ 0 ∷ 300 ∷ 302 ∷ 303 ∷ 2 ∷ [])

abbrev idling_told : List ℕ
idling_told =
    3 ∷ 0 ∷ 0 ∷ 0
    ∷ 8 ∷ 0 ∷ 0 ∷ 0
    ∷ 1 ∷ 0 ∷ 0 ∷ 0
    ∷ 44 ∷ 1 ∷ 0 ∷ 0
    ∷ 2 ∷ 0 ∷ 0 ∷ 0
    ∷ []

-- a refusal by this number
abbrev refused_told : ℕ → List ℕ
refused_told ν = 4 ∷ 0 ∷ 0 ∷ 0 ∷ ν ∷ 0 ∷ 0 ∷ 0 ∷ 0 ∷ 0 ∷ 0 ∷ 0 ∷ 0 ∷ 0 ∷ 0 ∷ 0 ∷ 0 ∷ 0 ∷ 0 ∷ 0 ∷ []

-- the file and the answer slice
abbrev pub checked : List ((List ℕ × List ℕ) × CheckCall)
checked =
    -- 19 bytes are too few, whatever the file is
    ((idling, lent 19), record { returns = 4; answer = lent 19 })
    ∷ (([], lent 19), record { returns = 4; answer = lent 19 })
    ∷ ((idling, []), record { returns = 4; answer = [] })
    -- 20 are filled, and those after them kept
    ∷ ((idling, lent 20), record { returns = 3; answer = idling_told })
    ∷ ((idling, lent 21), record { returns = 3; answer = idling_told ++ lent 1 })
    ∷ ((idling, lent 23), record { returns = 3; answer = idling_told ++ lent 3 })
    ∷ (([], lent 21), record { returns = 4; answer = refused_told 1 ++ lent 1 })
    ∷ []

pub checks_leave : map (λ row. check_call row.0.0 row.0.1) checked ≡ map (λ row. row.1) checked
unfolding computed numbers written check_call
checks_leave = refl

-- One core, this horizon, one task: P 300, B 1, W 1, O 0, J 0. Its job 0, from 0 to 1.
abbrev carriable : ℕ → List ℕ
carriable H = file 1 H (1 ∷ 300 ∷ 1 ∷ 1 ∷ 0 ∷ 0 ∷ []) (1 ∷ 0 ∷ 0 ∷ 0 ∷ 0 ∷ 1 ∷ 1 ∷ [])

-- the same with H 260, byte by byte
abbrev carried_to_260 : List ℕ
carried_to_260 =
    2 ∷ 0 ∷ 0 ∷ 0 ∷ 1 ∷ 0 ∷ 0 ∷ 0 ∷ 4 ∷ 1 ∷ 0 ∷ 0
    ∷ 1 ∷ 0 ∷ 0 ∷ 0
    ∷ 44 ∷ 1 ∷ 0 ∷ 0 ∷ 1 ∷ 0 ∷ 0 ∷ 0 ∷ 1 ∷ 0 ∷ 0 ∷ 0 ∷ 0 ∷ 0 ∷ 0 ∷ 0 ∷ 0 ∷ 0 ∷ 0 ∷ 0
    ∷ 1 ∷ 0 ∷ 0 ∷ 0
    ∷ 0 ∷ 0 ∷ 0 ∷ 0 ∷ 0 ∷ 0 ∷ 0 ∷ 0 ∷ 0 ∷ 0 ∷ 0 ∷ 0 ∷ 0 ∷ 0 ∷ 0 ∷ 0 ∷ 1 ∷ 0 ∷ 0 ∷ 0 ∷ 1 ∷ 0 ∷ 0 ∷ 0
    ∷ []

abbrev carried_told : List ℕ
carried_told = 5 ∷ 0 ∷ 0 ∷ 0 ∷ 64 ∷ 0 ∷ 0 ∷ 0 ∷ 0 ∷ 0 ∷ 0 ∷ 0 ∷ 0 ∷ 0 ∷ 0 ∷ 0 ∷ 0 ∷ 0 ∷ 0 ∷ 0 ∷ []

-- H', the output and the answer slice
abbrev pub carried_on : List ((ℕ × List ℕ × List ℕ) × OutputCall)
carried_on =
    -- 19 bytes are too few: the output is not written either
    ((260, lent 64, lent 19), record { returns = 4; output = lent 64; answer = lent 19 })
    -- the output is filled as far as the file goes, the answer to its 20th byte
    ∷ ((260, lent 64, lent 20), record { returns = 5; output = carried_to_260; answer = carried_told })
    ∷ ((260, lent 67, lent 21), record { returns = 5; output = carried_to_260 ++ lent 3; answer = carried_told ++ lent 1 })
    -- a refusal leaves the output as it is
    ∷ ((0, lent 67, lent 21), record { returns = 4; output = lent 67; answer = refused_told 9 ++ lent 1 })
    ∷ ((260, lent 63, lent 20), record { returns = 4; output = lent 63; answer = refused_told 11 })
    ∷ []

pub carries_leave : map (λ row. carry_call (carriable 1) row.0.0 row.0.1 row.0.2) carried_on ≡ map (λ row. row.1) carried_on
unfolding computed_carry numbers written output_call
carries_leave = refl
