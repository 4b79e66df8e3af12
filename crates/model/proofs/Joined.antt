-- Entries one after the other: more of them, how many numbers they have, and where each number stands. Assumes nothing.
use Prim.Native.Nat.{ℕ, zero, suc, ◌+◌, ◌*◌, ◌<◌}
use mathlib.Core.Path.{◌≡◌, refl, sym, ◌∙◌, ap}
use mathlib.Core.List.{List, [], ◌∷◌, ◌++◌, append_assoc, append-nil}
use native.Mathlib.Nat.{mul-suc}
use native.Mathlib.Omega.{arith}
use lib.ListN.{length, get_or, length-append, get_or-append}
use lib.Seq.{get_or-append-add}
use Rattle.model.specs.File.{joined}

module _ {A : Type 0} (f : A → List ℕ) where
  pub joined_append : (xs ys : List A) → joined f (xs ++ ys) ≡ joined f xs ++ joined f ys
  joined_append [] ys = refl
  joined_append (x ∷ xs) ys = ap (λ l. f x ++ l) (joined_append xs ys) ∙ sym (append_assoc (f x) (joined f xs) (joined f ys))

  -- one more entry
  pub joined_on : (xs : List A) (x : A) → joined f (xs ++ (x ∷ [])) ≡ joined f xs ++ f x
  joined_on xs x = joined_append xs (x ∷ []) ∙ ap (λ l. joined f xs ++ l) (append-nil (f x))

  -- entries of w numbers each
  module _ (w : ℕ) (even : (x : A) → length (f x) ≡ w) where
    pub length-joined : (xs : List A) → length (joined f xs) ≡ w * length xs
    length-joined [] = omega arith
    length-joined (x ∷ xs) = omega (arith, length-append (f x) (joined f xs), even x, length-joined xs, mul-suc w (length xs))

    -- number j of entry k, whatever follows
    pub joined_at : (xs : List A) (d : A) (rest : List ℕ) (k j : ℕ) → k < length xs → j < w → get_or (joined f xs ++ rest) (w * k + j) 0 ≡ get_or (f (get_or xs k d)) j 0
    joined_at [] d rest k j h l = absurd (omega arith)
    joined_at (x ∷ xs) d rest zero j h l =
        let z : w * 0 + j ≡ j = omega arith in
        ap (λ i. get_or (joined f (x ∷ xs) ++ rest) i 0) z
        ∙ ap (λ m. get_or m j 0) (append_assoc (f x) (joined f xs) rest)
        ∙ get_or-append (f x) (joined f xs ++ rest) 0 j (omega (arith, even x))
    joined_at (x ∷ xs) d rest (suc k) j h l =
        let z : w * suc k + j ≡ length (f x) + (w * k + j) = omega (arith, even x, mul-suc w k) in
        ap (λ i. get_or (joined f (x ∷ xs) ++ rest) i 0) z
        ∙ ap (λ m. get_or m (length (f x) + (w * k + j)) 0) (append_assoc (f x) (joined f xs) rest)
        ∙ get_or-append-add (f x) (joined f xs ++ rest) (w * k + j) 0
        ∙ joined_at xs d rest k j (omega arith) l
