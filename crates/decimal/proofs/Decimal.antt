-- A number's digits are those of its tenth, and one more. They are few, they are digits, the first of several is no zero, and their value is
-- the number. Assumes nothing.
use Prim.Native.Nat.{ℕ, zero, suc, ◌+◌, ◌-◌, ◌*◌, ◌/◌, ◌%◌, ◌^◌, ◌≤◌, ◌<◌}
use mathlib.Core.Path.{◌≡◌, refl, sym, ◌∙◌, ap}
use mathlib.Core.List.{List, [], ◌∷◌, ◌++◌}
use native.Mathlib.Decide.{dec_lt}
use native.Mathlib.Nat.{div-lt_iff_lt-mul, one-le-pow, pow-suc}
use native.Mathlib.Omega.{arith}
use lib.ListN.{length, get_or, length-append}
use borrow.Author.Tests.{lt-ltb, le-ltb}
use Rattle.std.specs.Option.{IfNone, IfSome, unwrap_or}
use Rattle.std.specs.Prelude.{None, Option, Some}
use Rattle.model.specs.Report.{digit, decimal_in, decimal}

in_small : (n v : ℕ) → v < 10 → decimal_in (suc n) v ≡ digit v ∷ []
unfolding decimal_in
in_small n v h = rw (lt-ltb v 10 h, decimal_in)

in_more : (n v : ℕ) → 10 ≤ v → decimal_in (suc n) v ≡ decimal_in n (v / 10) ++ (digit (v % 10) ∷ [])
unfolding decimal_in
in_more n v h = rw (le-ltb v 10 h, decimal_in)

-- a tenth has a digit less
tenth : (n v : ℕ) → v < 10 ^ suc (suc n) → v / 10 < 10 ^ suc n
tenth n v h = (div-lt_iff_lt-mul {k = 10} {x = v} {y = 10 ^ suc n} (omega arith)).1 (rw pow-suc at h)

-- nine digits are enough below 10^9
enough : (n v : ℕ) → v < 10 ^ suc n → decimal_in (suc n) v ≡ decimal_in (suc (suc n)) v
enough zero v h = in_small 0 v h ∙ sym (in_small 1 v h)
enough (suc n) v h = go (enough n (v / 10)) (dec_lt v 10)
  where
    go : (v / 10 < 10 ^ suc n → decimal_in (suc n) (v / 10) ≡ decimal_in (suc (suc n)) (v / 10)) → Dec (v < 10) → decimal_in (suc (suc n)) v ≡ decimal_in (suc (suc (suc n))) v
    go ih (yes l) = in_small (suc n) v l ∙ sym (in_small (suc (suc n)) v l)
    go ih (no l) = in_more (suc n) v (omega (arith, l)) ∙ ap (λ t. t ++ (digit (v % 10) ∷ [])) (ih (tenth n v h)) ∙ sym (in_more (suc (suc n)) v (omega (arith, l)))

pub decimal_small : (v : ℕ) → v < 10 → decimal v ≡ digit v ∷ []
decimal_small v h = in_small 9 v h

pub decimal_more : (v : ℕ) → 10 ≤ v → v < 4294967296 → decimal v ≡ decimal (v / 10) ++ (digit (v % 10) ∷ [])
decimal_more v h l = in_more 9 v h ∙ ap (λ t. t ++ (digit (v % 10) ∷ [])) (enough 8 (v / 10) (omega arith))

-- one more digit behind
pub decimal_on : (v d : ℕ) → 1 ≤ v → d < 10 → v * 10 + d < 4294967296 → decimal (v * 10 + d) ≡ decimal v ++ (digit d ∷ [])
decimal_on v d h l m =
    let q : (v * 10 + d) / 10 ≡ v = omega arith in
    let r : (v * 10 + d) % 10 ≡ d = omega arith in
    decimal_more (v * 10 + d) (omega arith) m ∙ rw (q, r)

-- How many they are.
-- ------------------
length_in : (n v : ℕ) → length (decimal_in n v) ≤ n
unfolding decimal_in
length_in zero v = omega arith
length_in (suc n) v = go (length_in n (v / 10)) (dec_lt v 10)
  where
    go : length (decimal_in n (v / 10)) ≤ n → Dec (v < 10) → length (decimal_in (suc n) v) ≤ suc n
    go ih (yes l) = rw (in_small n v l) (omega arith)
    go ih (no l) = rw (in_more n v (omega (arith, l)), length-append (decimal_in n (v / 10)) (digit (v % 10) ∷ [])) (omega arith)

pub length-decimal : (v : ℕ) → length (decimal v) ≤ 10
length-decimal v = length_in 10 v

pub length_small : (v : ℕ) → v < 10 → length (decimal v) ≡ 1
length_small v h = ap length (decimal_small v h)

pub length_more : (v : ℕ) → 10 ≤ v → v < 4294967296 → length (decimal v) ≡ length (decimal (v / 10)) + 1
length_more v h l = ap length (decimal_more v h l) ∙ length-append (decimal (v / 10)) (digit (v % 10) ∷ [])

-- as many as the power of ten below says; zero has one, too
length_power : (k v : ℕ) → 10 ^ k ≤ v → v < 10 * 10 ^ k → v < 4294967296 → length (decimal v) ≡ k + 1
length_power zero v h l m = length_small v l
length_power (suc k) v h l m =
    let e : 10 ^ suc k ≡ 10 * 10 ^ k = rw pow-suc (omega arith) in
    length_more v (omega (arith, one-le-pow k 10 (omega arith))) m ∙ ap (λ n. n + 1) (length_power k (v / 10) (omega arith) (omega arith) (omega arith)) ∙ omega arith

pub length_log : (k : Option ℕ) (v : ℕ) → v < 4294967296 → IfNone k (v ≡ 0) → IfSome k (λ n. 10 ^ n ≤ v) → IfSome k (λ n. v < 10 * 10 ^ n) → unwrap_or k 0 + 1 ≡ length (decimal v)
length_log None v m z h l = sym (length_small v (omega arith))
length_log (Some k) v m z h l = sym (length_power k v h l m)

-- there is one
pub decimal_some : (v : ℕ) → ¬ (decimal v ≡ [])
decimal_some v e = go (dec_lt v 10)
  where
    go : Dec (v < 10) → ⊥
    go (yes l) = omega (arith, ap length (sym (decimal_small v l) ∙ e))
    go (no l) = omega (arith, ap length (sym (in_more 9 v (omega (arith, l))) ∙ e), length-append (decimal_in 9 (v / 10)) (digit (v % 10) ∷ []))

-- The digits are digits.
-- ----------------------
pub data Digits : List ℕ → Type 0 where
  none : Digits []
  more : {d : ℕ} {ds : List ℕ} → 48 ≤ d → d ≤ 57 → Digits ds → Digits (d ∷ ds)

one : (d : ℕ) → 48 ≤ d → d ≤ 57 → Digits (d ∷ [])
one d a b = more a b none

digits_append : {xs ys : List ℕ} → Digits xs → Digits ys → Digits (xs ++ ys)
digits_append none g = g
digits_append (more a b f) g = more a b (digits_append f g)

digits_in : (n v : ℕ) → Digits (decimal_in n v)
unfolding decimal_in
digits_in zero v = none
digits_in (suc n) v = go (digits_in n (v / 10)) (dec_lt v 10)
  where
    go : Digits (decimal_in n (v / 10)) → Dec (v < 10) → Digits (decimal_in (suc n) v)
    go ih (yes l) = rw (in_small n v l) (one (digit v) (omega arith) (omega arith))
    go ih (no l) = rw (in_more n v (omega (arith, l))) (digits_append ih (one (digit (v % 10)) (omega arith) (omega arith)))

pub decimal_digits : (v : ℕ) → Digits (decimal v)
decimal_digits v = digits_in 10 v

-- The first of several is no zero.
-- --------------------------------
head_append : (xs ys : List ℕ) → 48 < get_or xs 0 0 → 48 < get_or (xs ++ ys) 0 0
head_append [] ys h = absurd (omega arith)
head_append (x ∷ xs) ys h = h

lead : (n v : ℕ) → 1 ≤ v → v < 10 ^ suc n → 48 < get_or (decimal_in (suc n) v) 0 0
lead zero v h l = rw (in_small 0 v l) (omega arith)
lead (suc n) v h l = go (lead n (v / 10)) (dec_lt v 10)
  where
    go : (1 ≤ v / 10 → v / 10 < 10 ^ suc n → 48 < get_or (decimal_in (suc n) (v / 10)) 0 0) → Dec (v < 10) → 48 < get_or (decimal_in (suc (suc n)) v) 0 0
    go ih (yes m) = rw (in_small (suc n) v m) (omega arith)
    go ih (no m) = rw (in_more (suc n) v (omega (arith, m))) (head_append (decimal_in (suc n) (v / 10)) (digit (v % 10) ∷ []) (ih (omega (arith, m)) (tenth n v l)))

-- a zero stands alone
pub zero_alone : (v d : ℕ) (ds : List ℕ) → v < 4294967296 → ¬ (decimal v ≡ 48 ∷ d ∷ ds)
zero_alone v d ds l e = go (dec_lt v 10)
  where
    go : Dec (v < 10) → ⊥
    go (yes m) = omega (arith, ap length (sym (decimal_small v m) ∙ e))
    go (no m) = omega (arith, lead 9 v (omega (arith, m)) (omega arith), ap (λ l. get_or l 0 0) e)

-- Their value is the number.
-- --------------------------
unfoldable pub value_from : ℕ → List ℕ → ℕ
value_from a [] = a
value_from a (d ∷ ds) = value_from (a * 10 + (d - 48)) ds

value_append : (a : ℕ) (xs ys : List ℕ) → value_from a (xs ++ ys) ≡ value_from (value_from a xs) ys
unfolding value_from
value_append a [] ys = refl
value_append a (x ∷ xs) ys = value_append (a * 10 + (x - 48)) xs ys

value_grows : (a : ℕ) (ds : List ℕ) → a ≤ value_from a ds
unfolding value_from
value_grows a [] = omega arith
value_grows a (d ∷ ds) = omega (arith, value_grows (a * 10 + (d - 48)) ds)

value_in : (n v : ℕ) → v < 10 ^ suc n → value_from 0 (decimal_in (suc n) v) ≡ v
unfolding value_from
value_in zero v h = rw (in_small 0 v h) (omega arith)
value_in (suc n) v h = go (value_in n (v / 10)) (dec_lt v 10)
  where
    go : (v / 10 < 10 ^ suc n → value_from 0 (decimal_in (suc n) (v / 10)) ≡ v / 10) → Dec (v < 10) → value_from 0 (decimal_in (suc (suc n)) v) ≡ v
    go ih (yes l) = rw (in_small (suc n) v l) (omega arith)
    go ih (no l) = rw (in_more (suc n) v (omega (arith, l)), value_append 0 (decimal_in (suc n) (v / 10)) (digit (v % 10) ∷ []), ih (tenth n v h)) (omega arith)

pub value_decimal : (v : ℕ) → v < 4294967296 → value_from 0 (decimal v) ≡ v
value_decimal v h = value_in 9 v (omega arith)

pub decimal_one : (v w : ℕ) → v < 4294967296 → w < 4294967296 → decimal v ≡ decimal w → v ≡ w
decimal_one v w h l e = sym (value_decimal v h) ∙ ap (value_from 0) e ∙ value_decimal w l

-- a number whose digits go on with d is no smaller than v with d behind
pub decimal_least : (v w d : ℕ) (ds : List ℕ) → v < 4294967296 → w < 4294967296 → decimal w ≡ decimal v ++ (d ∷ ds) → v * 10 + (d - 48) ≤ w
unfolding value_from
decimal_least v w d ds h l e =
    let q : w ≡ value_from (v * 10 + (d - 48)) ds = sym (value_decimal w l) ∙ ap (value_from 0) e ∙ value_append 0 (decimal v) (d ∷ ds) ∙ ap (λ a. value_from a (d ∷ ds)) (value_decimal v h) in
    omega (arith, value_grows (v * 10 + (d - 48)) ds)
