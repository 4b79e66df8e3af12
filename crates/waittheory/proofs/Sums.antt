-- Sums of numbers along a list, two sums that change places, and counts as sums: of numbers alone. Assumes nothing.
use Prim.Native.Nat.{ℕ, zero, suc, ◌+◌, ◌*◌, ◌-◌, ◌≤◌, ◌<◌}
use mathlib.Core.Path.{◌≡◌, refl, sym, ◌∙◌}
use mathlib.Core.Bool.{Bool, true, false}
use mathlib.Core.List.{List, [], ◌∷◌, ◌++◌, map}
use native.Mathlib.Omega.{arith}
use Rattle.base.specs.Find.{count, tally}
use Rattle.base.proofs.Test.{Says}
use Rattle.sorting.specs.Sorted.{up_to}
use Rattle.model.specs.Model.{sum}
use Rattle.waittheory.specs.WaitBound.{all_but}

abbrev pub total : (ℕ → ℕ) → List ℕ → ℕ
total f l = sum (map f l)

-- Along any list
-- --------------
total_append : (f : ℕ → ℕ) (l m : List ℕ) → total f (l ++ m) ≡ total f l + total f m
total_append f [] m = omega arith
total_append f (k ∷ l) m = let e = total_append f l m in omega arith

total_add : (f g : ℕ → ℕ) (l : List ℕ) → total (λ k. f k + g k) l ≡ total f l + total g l
total_add f g [] = refl
total_add f g (k ∷ l) = let e = total_add f g l in omega arith

total_zero : (l : List ℕ) → total (λ k. 0) l ≡ 0
total_zero [] = refl
total_zero (k ∷ l) = let e = total_zero l in omega arith

-- two sums change places
pub total_swap : (f : ℕ → ℕ → ℕ) (l m : List ℕ) → total (λ a. total (f a) m) l ≡ total (λ b. total (λ a. f a b) l) m
total_swap f [] m = sym (total_zero m)
total_swap f (a ∷ l) m =
    let e = total_swap f l m in
    let w = total_add (f a) (λ b. total (λ x. f x b) l) m in
    omega arith

-- Along i, i + 1, ..
-- ------------------
pub total_const : (c i n : ℕ) → total (λ k. c) (up_to i n) ≡ c * n
total_const c i zero = omega arith
total_const c i (suc n) = let e = total_const c (suc i) n in omega arith

same_up : (f : ℕ → ℕ) (i j m n : ℕ) → i ≡ j → m ≡ n → total f (up_to i m) ≡ total f (up_to j n)
same_up f i j m n p q = λ κ. total f (up_to (p κ) (q κ))

total_join : (f : ℕ → ℕ) (i m n : ℕ) → total f (up_to i (m + n)) ≡ total f (up_to i m) + total f (up_to (i + m) n)
total_join f i zero n = omega (arith, same_up f i i (0 + n) n refl (omega arith), same_up f (i + 0) i n n (omega arith) refl)
total_join f i (suc m) n =
    omega (
      arith,
      total_join f (suc i) m n,
      same_up f i i (suc m + n) (suc (m + n)) refl (omega arith),
      same_up f (i + suc m) (suc i + m) n n (omega arith) refl,
    )

pub total_mono : (f g : ℕ → ℕ) (i n : ℕ) → ((k : ℕ) → i ≤ k → k < i + n → f k ≤ g k) → total f (up_to i n) ≤ total g (up_to i n)
total_mono f g i zero h = omega arith
total_mono f g i (suc n) h =
    let a = h i (omega arith) (omega arith) in
    let b = total_mono f g (suc i) n (λ k l m. h k (omega arith) (omega arith)) in
    omega arith

-- Along the numbers below n but k
-- -------------------------------
pub total_but : (f : ℕ → ℕ) (n k : ℕ) → k < n → total f (up_to 0 n) ≡ total f (all_but n k) + f k
total_but f n k h =
    let m : ℕ = n - suc k in
    omega (
      arith,
      same_up f 0 0 n (k + suc m) refl (omega arith),
      total_join f 0 k (suc m),
      same_up f (0 + k) k (suc m) (suc m) (omega arith) refl,
      total_append f (up_to 0 k) (up_to (suc k) m),
    )

pub total_but_mono : (f g : ℕ → ℕ) (n k : ℕ) → k < n → ((j : ℕ) → j < n → f j ≤ g j) → total f (all_but n k) ≤ total g (all_but n k)
total_but_mono f g n k h l =
    let a = total_mono f g 0 k (λ j p q. l j (omega arith)) in
    let b = total_mono f g (suc k) (n - suc k) (λ j p q. l j (omega arith)) in
    let p = total_append f (up_to 0 k) (up_to (suc k) (n - suc k)) in
    let q = total_append g (up_to 0 k) (up_to (suc k) (n - suc k)) in
    omega arith

-- Counts
-- ------
abbrev pub unit : Bool → ℕ
unit b = tally b 0

-- a test as a number, beside one that is 1 or more where the test passes, and beside one that is 1 or less, and 0 where it fails
module _ {b : Bool} {A : Type 0} (S : Says b A) (x : ℕ) where
  pub unit_under : (A → 1 ≤ x) → unit b ≤ x
  unit_under h = go b S.sound
    where
      go : (b : Bool) → (b ≡ true → A) → unit b ≤ x
      go true s = h (s refl)
      go false s = omega arith

  pub unit_over : x ≤ 1 → (¬ A → x ≡ 0) → x ≤ unit b
  unit_over m z = go b S.refutes
    where
      go : (b : Bool) → (b ≡ false → ¬ A) → x ≤ unit b
      go true r = m
      go false r = omega (arith, z (r refl))

tally_adds : (b : Bool) (c : ℕ) → tally b c ≡ c + unit b
tally_adds true c = omega arith
tally_adds false c = omega arith

pub count_total : (p : ℕ → Bool) (n : ℕ) → count p n ≡ total (λ k. unit (p k)) (up_to 0 n)
unfolding count
count_total p zero = refl
count_total p (suc n) =
    let f : ℕ → ℕ = λ k. unit (p k) in
    omega (
      arith,
      count_total p n,
      tally_adds (p n) (count p n),
      total_join f 0 n 1,
      same_up f 0 0 (suc n) (n + 1) refl (omega arith),
      same_up f (0 + n) n 1 1 (omega arith) refl,
    )

-- what is counted in a field of tests, row by row and column by column
pub counts_swap : (p : ℕ → ℕ → Bool) (m n : ℕ)
    → total (λ i. count (p i) n) (up_to 0 m) ≡ total (λ k. count (λ i. p i k) m) (up_to 0 n)
counts_swap p m n =
    (λ κ. total (λ i. count_total (p i) n κ) (up_to 0 m)) ∙ total_swap (λ i k. unit (p i k)) (up_to 0 m) (up_to 0 n)
    ∙ (λ κ. total (λ k. sym (count_total (λ i. p i k) m) κ) (up_to 0 n))
