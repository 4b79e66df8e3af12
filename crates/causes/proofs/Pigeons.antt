-- Numbers below n that are told apart are no more than n. Assumes nothing.
use Prim.Native.Nat.{ℕ, zero, suc, ◌≤◌, ◌<◌}
use mathlib.Core.Path.{◌≡◌, sym, ◌∙◌}
use native.Mathlib.Omega.{arith}
use native.Mathlib.Decide.{ℕ_discrete}

-- where f gives n, the number v stands in its place
abbrev instead : {n x : ℕ} → ℕ → Dec (x ≡ n) → ℕ
instead {x = x} v (yes e) = v
instead {x = x} v (no d) = x

pub no_more : (f : ℕ → ℕ) (n m : ℕ) → ((a : ℕ) → a < m → f a < n) → ((a b : ℕ) → a < m → b < m → f a ≡ f b → a ≡ b) → m ≤ n
no_more f n zero below apart = omega arith
no_more f zero (suc m) below apart = absurd (omega (arith, below m (omega arith)))
no_more f (suc n) (suc m) below apart =
    let k = no_more (λ a. instead {n = n} (f m) (ℕ_discrete (f a) n)) n m (λ a h. low a h (ℕ_discrete (f a) n)) (λ a b h l. told a b h l (ℕ_discrete (f a) n) (ℕ_discrete (f b) n)) in
    omega arith
  where
    other : (a : ℕ) → a < m → ¬ (f a ≡ f m)
    other a h e = omega (arith, apart a m (omega arith) (omega arith) e)

    low : (a : ℕ) → a < m → (d : Dec (f a ≡ n)) → instead {n = n} (f m) d < n
    low a h (yes e) = let g : ¬ (f m ≡ n) = λ q. other a h (e ∙ sym q) in omega (arith, below m (omega arith), g)
    low a h (no d) = omega (arith, below a (omega arith), d)

    told : (a b : ℕ) → a < m → b < m → (d : Dec (f a ≡ n)) (e : Dec (f b ≡ n)) → instead {n = n} (f m) d ≡ instead {n = n} (f m) e → a ≡ b
    told a b h l (yes d) (yes e) q = apart a b (omega arith) (omega arith) (d ∙ sym e)
    told a b h l (yes d) (no e) q = absurd (other b l (sym q))
    told a b h l (no d) (yes e) q = absurd (other a h q)
    told a b h l (no d) (no e) q = apart a b (omega arith) (omega arith) q
