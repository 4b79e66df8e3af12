-- Arrays as lists: what the typing tells of one of structs, and what is left of one that holds the same value everywhere; and an entry
-- of a list, as there or not. Assumes nothing.
use Rattle.std.specs.Prelude.{None, Some, slice_get}
use Prim.Native.Nat.{ℕ, zero, suc, ◌+◌, ◌-◌, ◌≤◌, ◌<◌}
use mathlib.Core.Path.{◌≡◌, refl, sym, ◌∙◌, ap}
use mathlib.Core.List.{List, [], ◌∷◌, ◌++◌, map}
use native.Mathlib.Nat.{not-suc-le-zero, le_of_suc-le-suc}
use native.Mathlib.Omega.{arith}
use lib.ListN.{length, get_or, drop, replicate, length-map, length-replicate, replicate-append-replicate}
use lib.Seq.{drop_at}

-- the typing tells the length of the map of its elements
pub length_under : {A B : Type 0} (f : A → B) (l : List A) (n : ℕ) → length (map f l) ≡ n → length l ≡ n
length_under f l n e = sym (length-map l f) ∙ e

pub drop-replicate : {A : Type 0} (n m : ℕ) (a : A) → n ≤ m → drop n (replicate m a) ≡ replicate (m - n) a
drop-replicate n m a h =
    let all : n + (m - n) ≡ m = omega arith in
    let both : replicate n a ++ replicate (m - n) a ≡ replicate m a = replicate-append-replicate n (m - n) a ∙ ap (λ k. replicate k a) all in
    ap (drop n) (sym both) ∙ drop_at (replicate n a) (replicate (m - n) a) n (length-replicate n a)

pub entry_there : {A : Type 0} (l : List A) (k : ℕ) (d : A) → k < length l → slice_get l k ≡ Some (get_or l k d)
entry_there [] k d h = absurd (not-suc-le-zero h)
entry_there (x ∷ l) zero d h = refl
entry_there (x ∷ l) (suc k) d h = entry_there l k d (le_of_suc-le-suc h)

pub entry_past : {A : Type 0} (l : List A) (k : ℕ) → length l ≤ k → slice_get l k ≡ None
entry_past [] k h = refl
entry_past (x ∷ l) zero h = absurd (not-suc-le-zero h)
entry_past (x ∷ l) (suc k) h = entry_past l k (le_of_suc-le-suc h)
