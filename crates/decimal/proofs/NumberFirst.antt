-- What was read at a place, by its result; and that one number at most stands first in a text. Assumes nothing.
use Prim.Native.Nat.{ℕ, ◌<◌, ◌≤◌}
use mathlib.Core.Path.{◌≡◌, refl, sym, ◌∙◌, ap, subst}
use mathlib.Core.List.{List, [], ◌∷◌, ◌++◌, append-nil}
use native.Mathlib.Omega.{arith}
use lib.ListN.{length, drop, length-drop}
use Rattle.model.specs.Report.{decimal}
use Rattle.std.specs.Prelude.{None, Option, Some}
use Rattle.decimal.specs.NumberFirst.{NumberFirst, SaysNumber}
use Rattle.decimal.proofs.Decimal.{Digits, none, more, decimal_digits, decimal_one}
use Rattle.decimal.proofs.DigitByDigit.{Goes, goes}

module _ (s : List ℕ) (at stop : ℕ) {p : Option (ℕ × ℕ)} (told : SaysNumber s at stop p) where
  pub number_of : {v next : ℕ} → p ≡ Some (v, next) → (next ≤ length s) × NumberFirst (drop at s) v stop (drop next s)
  number_of e = subst (SaysNumber s at stop) e told

  pub bad_of : p ≡ None → (v : ℕ) (rest : List ℕ) → ¬ NumberFirst (drop at s) v stop rest
  bad_of e = subst (SaysNumber s at stop) e told

-- one number at most stands first, and what follows it is one rest
pub first_one : {l m n : List ℕ} {v w t : ℕ} → t < 48 → NumberFirst l v t m → NumberFirst l w t n → (v ≡ w) × (m ≡ n)
first_one {l} {m} {n} {v} {w} {t} h A B =
    go (goes (t ∷ m) t n (decimal_digits v) (decimal_digits w) h (sym A.text ∙ B.text))
  where
    at_end : (zs : List ℕ) → Digits zs → decimal w ≡ decimal v ++ zs → t ∷ m ≡ zs ++ (t ∷ n) → (v ≡ w) × (m ≡ n)
    at_end [] none q r = (decimal_one v w A.four_bytes B.four_bytes (sym (q ∙ append-nil (decimal v))), cc)
    at_end (z ∷ zs) (more a b g) q r = let e : t ≡ z = cc in absurd (omega arith)

    go : Goes (decimal v) (t ∷ m) (decimal w) t n → (v ≡ w) × (m ≡ n)
    go g = at_end g.between g.digits g.longer g.then

-- two places of a text with one rest are the same
same_place : (s : List ℕ) (i j : ℕ) → i ≤ length s → j ≤ length s → drop i s ≡ drop j s → i ≡ j
same_place s i j h l e = omega (arith, ap length e, length-drop i s, length-drop j s)

-- two readings at a place say the same
pub says_one : (s : List ℕ) (at stop : ℕ) (p q : Option (ℕ × ℕ)) → stop < 48 → SaysNumber s at stop p → SaysNumber s at stop q → p ≡ q
says_one s at stop (Some (v, i)) (Some (w, j)) h (l, A) (m, B) = let (e, r) = first_one h A B in let d = same_place s i j l m r in λ κ. Some (e κ, d κ)
says_one s at stop (Some (v, i)) None h (l, A) g = absurd (g v (drop i s) A)
says_one s at stop None (Some (w, j)) h f (m, B) = absurd (f w (drop j s) B)
says_one s at stop None None h f g = refl
