-- How many jobs wait: one less after each start, none at the end. Assumes nothing.
use Prim.Native.Nat.{ℕ, zero, suc, ◌≤◌, ◌<◌}
use mathlib.Core.Path.{◌≡◌, refl, sym, ◌∙◌, ap}
use mathlib.Core.Bool.{Bool, true, false}
use native.Mathlib.Omega.{arith}
use native.Mathlib.Decide.{ℕ_discrete}
use Rattle.base.specs.Find.{count, tally}
use Rattle.base.proofs.Test.{Says, says_eqb, says_true, says_false}
use Rattle.base.proofs.Searches.{first_finds, found_says}
use Rattle.model.specs.Model.{Run, IsRecord, rec}
use Rattle.model.specs.Carry.{not_begun, starts_for, some_waits}
use Rattle.model.specs.Compute.Places.{size}
use Rattle.model.specs.Compute.Jumps.{waiting}
use Rattle.carrytheory.proofs.StartChanges.{as_many, elsewhere, here}

-- Counting
-- --------

-- what holds below n and at n holds below n + 1
pub below_suc : (Q : ℕ → Type 0) (n : ℕ) → ((k : ℕ) → k < n → Q k) → Q n → (k : ℕ) → k < suc n → Q k
below_suc Q n f q k h = go (ℕ_discrete k n)
  where
    go : Dec (k ≡ n) → Q k
    go (yes e) = rw e q
    go (no e) = f k (omega (arith, e))

module _ (p q : ℕ → Bool) where
  count_same : (n : ℕ) → ((k : ℕ) → k < n → p k ≡ q k) → count p n ≡ count q n
  unfolding count
  count_same zero f = refl
  count_same (suc n) f = rw (f n (omega arith), count_same n (λ k h. f k (omega arith)))

  -- q passes what p passes, but for k
  module _ (k : ℕ) (yes-p : p k ≡ true) (no-q : q k ≡ false) (same : (j : ℕ) → ¬ (j ≡ k) → p j ≡ q j) where
    count_less : (n : ℕ) → k < n → count p n ≡ suc (count q n)
    unfolding count
    count_less zero h = absurd (omega arith)
    count_less (suc n) h = go (count_less n) (ℕ_discrete n k) (q n) refl
      where
        go : (k < n → count p n ≡ suc (count q n)) → Dec (n ≡ k) → (b : Bool) → q n ≡ b → tally (p n) (count p n) ≡ suc (tally (q n) (count q n))
        go ih (yes e) b w =
            let x : p n ≡ true = rw e yes-p in
            let y : q n ≡ false = rw e no-q in
            rw (x, y, count_same n (λ j l. same j (λ z. omega arith)))
        go ih (no f) true w = rw (same n f, w, ih (omega (arith, f)))
        go ih (no f) false w = rw (same n f, w, ih (omega (arith, f)))

module _ (p : ℕ → Bool) where
  count_le : (n : ℕ) → count p n ≤ n
  unfolding count
  count_le zero = omega arith
  count_le (suc n) = go (count_le n) (p n) refl
    where
      go : count p n ≤ n → (b : Bool) → p n ≡ b → tally (p n) (count p n) ≤ suc n
      go ih true e = rw e (omega arith)
      go ih false e = rw e (omega arith)

  -- none passes, or one does
  data Counted (n : ℕ) : Type 0 where
    nobody : count p n ≡ 0 → ((k : ℕ) → k < n → p k ≡ false) → Counted n
    one : (m : ℕ) → count p n ≡ suc m → (k : ℕ) → k < n → p k ≡ true → Counted n

  counted : (n : ℕ) → Counted n
  unfolding count
  counted zero = nobody refl (λ k h. absurd (omega arith))
  counted (suc n) = go (counted n) (p n) refl
    where
      go : Counted n → (b : Bool) → p n ≡ b → Counted (suc n)
      go c true e = one (count p n) (rw e) n (omega arith) e
      go (one m w k h l) false e = one m (rw (e, w)) k (omega arith) l
      go (nobody w f) false e = nobody (rw (e, w)) (below_suc (λ k. p k ≡ false) n f e)

-- The jobs of a run that have not begun
-- -------------------------------------
module _ (σ : Run) where
  says_not_begun : (k : ℕ) → Says (not_begun σ k) ((rec σ k).core ≡ 0)
  says_not_begun k = says_eqb _ _

  pub waiting_size : waiting σ ≤ size σ
  unfolding waiting
  waiting_size = count_le (not_begun σ) (size σ)

  -- none waits, or one does
  pub data Waits : Type 0 where
    nobody : waiting σ ≡ 0 → ((k : ℕ) → IsRecord σ k → 1 ≤ (rec σ k).core) → Waits
    one : (m : ℕ) → waiting σ ≡ suc m → (k : ℕ) → IsRecord σ k → (rec σ k).core ≡ 0 → Waits

  pub waits : Waits
  unfolding waiting
  waits = go (counted (not_begun σ) (size σ))
    where
      go : Counted (not_begun σ) (size σ) → Waits
      go (Counted.nobody e f) = Waits.nobody e (λ k h. let w = (says_not_begun k).refutes (f k h) in omega arith)
      go (Counted.one m e k h l) = Waits.one m e k h ((says_not_begun k).sound l)

  pub nobody_waits : some_waits σ ≡ false → waiting σ ≡ 0
  nobody_waits e = go waits
    where
      go : Waits → waiting σ ≡ 0
      go (nobody z f) = z
      go (one m z k h l) =
          absurd ((found_says (first_finds (not_begun σ) _ says_not_begun 0 (size σ))).refutes e (k, (omega arith, omega arith, l)))

  pub fewer_wait : (t k c l : ℕ) → IsRecord σ k → (rec σ k).core ≡ 0 → 1 ≤ c → waiting σ ≡ suc (waiting (starts_for σ t k c l))
  unfolding waiting
  fewer_wait t k c l h z is =
      count_less (not_begun σ) (not_begun (starts_for σ t k c l)) k
      (says_true (says_not_begun k) z)
      (rw (here σ t k c l h) (says_false (says_eqb c 0) (λ e. omega arith)))
      (λ j f. rw (elsewhere σ t k c l j f))
      (size σ) h
      ∙ ap (λ n. suc (count (not_begun (starts_for σ t k c l)) n)) (sym (as_many σ t k c l))
