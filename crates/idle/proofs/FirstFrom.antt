-- The first instant of which something holds, from one pass over what it may hold of. Assumes nothing.
use Prim.Native.Nat.{ℕ, suc, ◌+◌, ◌≤◌, ◌<◌, min}
use mathlib.Core.Path.{◌≡◌}
use mathlib.Core.Logic.{◌⊎◌, inl, inr}
use native.Mathlib.Decide.{dec_le}
use native.Mathlib.Omega.{arith}
use Rattle.base.proofs.Find.{here_or_on}
use Rattle.idle.specs.FirstFrom.{never, FirstFrom, Among}

-- the same, said in other words
pub first_same : {P Q : ℕ → Type 0} {t r : ℕ} → ((x : ℕ) → P x → Q x) → ((x : ℕ) → Q x → P x) → FirstFrom P t r → FirstFrom Q t r
first_same f g F = record { from = F.from; clear = λ x h l q. F.clear x h l (g x q); here = λ l. f _ (F.here l) }

-- it holds at once, or at no instant
pub first_now : {P : ℕ → Type 0} {t : ℕ} → P t → FirstFrom P t t
first_now p = record { from = omega arith; clear = λ x h l. absurd (omega arith); here = λ _. p }

pub first_never : {P : ℕ → Type 0} {t : ℕ} → t ≤ never → ((x : ℕ) → t ≤ x → ¬ P x) → FirstFrom P t never
first_never h f = record { from = h; clear = λ x l _. f x l; here = λ l. absurd (omega arith) }

module _ (P : ℕ → ℕ → Type 0) where
  pub among_none : {t : ℕ} → t ≤ never → FirstFrom (Among P 0) t never
  among_none h = first_never h (λ x l w. absurd (omega (arith, w.1.0)))

  -- one more looked at
  pub among_on : {n t a b r : ℕ} → FirstFrom (Among P n) t a → FirstFrom (P n) t b → r ≡ min a b → FirstFrom (Among P (n + 1)) t r
  among_on {n} {t} {a} {b} {r} A B e = record { from = omega (arith, A.from, B.from); clear = clear; here = here (dec_le a b) }
    where
      clear : (x : ℕ) → t ≤ x → x < r → ¬ Among P (n + 1) x
      clear x h l (k, (v, p)) = go (here_or_on k n (omega arith))
        where
          go : (n ≡ k) ⊎ (suc k ≤ n) → ⊥
          go (inl z) = B.clear x h (omega arith) (rw z p)
          go (inr z) = A.clear x h (omega arith) (k, (z, p))

      here : Dec (a ≤ b) → r < never → Among P (n + 1) r
      here (yes h) l =
          let z : a ≡ r = omega arith in
          let (k, (v, p)) : Among P n r = rw z at (A.here (omega arith)) in
          (k, (omega arith, p))
      here (no h) l =
          let z : b ≡ r = omega (arith, h) in
          (n, (omega arith, rw z at (B.here (omega (arith, h)))))
