-- The cores: what one more job changes of their last ends, the least of these, and the core that is taken. Assumes nothing.
use Rattle.std.specs.Prelude.{None, Option, Some, MatchOption, IsSome}
use Prim.Native.Nat.{ℕ, zero, suc, ◌+◌, ◌-◌, ◌≤◌, ◌<◌, max}
use mathlib.Core.Path.{◌≡◌, refl, sym, subst, ◌∙◌, ap}
use mathlib.Core.Logic.{inl, inr}
use mathlib.Core.List.{List}
use native.Mathlib.Omega.{arith}
use native.Mathlib.Decide.{ℕ_discrete, dec_le}
use borrow.Author.Rules.{rules}
use lib.ListN.{length, get_or, set, take, drop, replicate, length-set, length-drop}
use lib.Seq.{get_or-set_same, get_or-set_other, get_or-take, get_or-drop, length-take-le}
use Rattle.model.specs.Model.{most_cores}
use Rattle.starts.specs.Cores.{EndsAt, LastOf, Lasts, LeastOf}
use Rattle.starts.proofs.Choosing.{below_one}

-- what is asked of entry d of a list that is written at c
pub at_set : (Q : ℕ → ℕ → Type 0) (xs : List ℕ) (c e : ℕ) → c < length xs → Q c e → (d : ℕ) → (¬ (d ≡ c) → Q d (get_or xs d 0))
    → Q d (get_or (set xs c e) d 0)
at_set Q xs c e h q d f = go (ℕ_discrete d c)
  where
    go : Dec (d ≡ c) → Q d (get_or (set xs c e) d 0)
    go (yes z) = rw (z, get_or-set_same xs c e 0 h) q
    go (no z) = rw (get_or-set_other xs c d e 0 z) (f z)

-- The last ends
-- -------------
pub zeros : (n c : ℕ) → ◌≡◌ {A = ℕ} (get_or (replicate n 0) c 0) 0
zeros zero c = refl
zeros (suc n) zero = refl
zeros (suc n) (suc c) = zeros n c

module _ {cs es : List ℕ} where
  pub no_ends : {xs : List ℕ} → length xs ≡ most_cores + 1 → ((c : ℕ) → get_or xs c 0 ≡ 0) → Lasts 0 cs es xs
  no_ends l z = record { count = l; each = λ c h b. record { none_later = λ k w. absurd (omega arith); reached = inl (z c) } }

  -- job n ends on core c
  pub one_end : {n : ℕ} {xs : List ℕ} → Lasts n cs es xs → {c : ℕ} → get_or cs n 0 ≡ c → c ≤ most_cores
      → Lasts (n + 1) cs es (set xs c (max (get_or xs c 0) (get_or es n 0)))
  one_end {n} {xs} L {c} is small =
      let e = max (get_or xs c 0) (get_or es n 0) in
      record {
        count = length-set xs c e ∙ L.count;
        each = λ d h b.
            at_set (λ d y. 1 ≤ d → LastOf (n + 1) cs es d y) xs c e (omega (arith, L.count)) here d (λ f g. other d g f (L.each d g b)) h;
      }
    where
      more : (d e : ℕ) → EndsAt n cs es d e → EndsAt (n + 1) cs es d e
      more d e (inl z) = inl z
      more d e (inr (k, l, p, q)) = inr (k, omega arith, p, q)

      other : (d : ℕ) → 1 ≤ d → ¬ (d ≡ c) → LastOf n cs es d (get_or xs d 0) → LastOf (n + 1) cs es d (get_or xs d 0)
      other d h f E =
          record {
            none_later = below_one (λ k. get_or cs k 0 ≡ d → get_or es k 0 ≤ get_or xs d 0) n E.none_later (λ z. absurd (f (sym z ∙ is)));
            reached = more d (get_or xs d 0) E.reached;
          }

      here : 1 ≤ c → LastOf (n + 1) cs es c (max (get_or xs c 0) (get_or es n 0))
      here h =
          let E = L.each c h (omega arith) in
          record {
            none_later =
                below_one (λ k. get_or cs k 0 ≡ c → get_or es k 0 ≤ max (get_or xs c 0) (get_or es n 0)) n
                (λ k l z. omega (arith, E.none_later k l z)) (λ z. omega arith);
            reached = go (dec_le (get_or xs c 0) (get_or es n 0)) (more c (get_or xs c 0) E.reached);
          }
        where
          go : Dec (get_or xs c 0 ≤ get_or es n 0) → EndsAt (n + 1) cs es c (get_or xs c 0) → EndsAt (n + 1) cs es c (max (get_or xs c 0) (get_or es n 0))
          go (yes y) r = inr (n, omega arith, is, omega arith)
          go (no y) (inl z) = inl (omega (arith, y))
          go (no y) (inr (k, l, p, q)) = inr (k, l, p, omega (arith, y))

-- The least of them, in the part of the list that is of the cores 1 to n
-- ------------------------------------------------------------------------
pub least_in : {xs ys : List ℕ} (n : ℕ) {f : ℕ} → ys ≡ take (n + 1 - 1) (drop 1 xs) → n < length xs → (k : ℕ) × (k < length ys) × (get_or ys k 0 ≡ f)
    → ((k : ℕ) → k < length ys → f ≤ get_or ys k 0) → LeastOf xs (n + 1) f
least_in {xs} {ys} n {f} e few (k, l, z) h =
    record {
      core = 1 + k;
      core_is = omega (arith, long);
      here = sym (at k (omega (arith, long))) ∙ z;
      least = λ d a b.
          let w : d ≡ 1 + (d - 1) = omega arith in
          rw w (rw (at (d - 1) (omega arith)) at (h (d - 1) (omega (arith, long))));
    }
  where
    long : length ys ≡ n
    long = ap length e ∙ length-take-le (n + 1 - 1) (drop 1 xs) (simp length-drop (omega arith)) ∙ omega arith

    at : (k : ℕ) → k < n → get_or ys k 0 ≡ get_or xs (1 + k) 0
    at k l = ap (λ us. get_or us k 0) e ∙ get_or-take (n + 1 - 1) (drop 1 xs) k 0 (omega arith) ∙ get_or-drop 1 xs k 0

-- The core that is taken
-- ----------------------

-- the first of the cores 1 to n that is free at t, if one is
abbrev pub Tried : List ℕ → ℕ → ℕ → Option ℕ → Type 0
Tried xs n t r =
    MatchOption r ((k : ℕ) → 1 ≤ k → k < n + 1 → t < get_or xs k 0)
    (λ c. (1 ≤ c) × (c < n + 1) × (get_or xs c 0 ≤ t) × ((d : ℕ) → 1 ≤ d → d < c → t < get_or xs d 0))

module _ (xs : List ℕ) (n t : ℕ) where
  pub some_free : (r : Option ℕ) → Tried xs n t r → (d : ℕ) × (1 ≤ d) × (d ≤ n) × (get_or xs d 0 ≤ t) → IsSome r
  some_free None T (d, a, b, f) = let l = T d a (omega arith) in absurd (omega arith)
  some_free (Some c) T w = search rules

  pub free_at : {r : Option ℕ} {c : ℕ} → r ≡ Some c → Tried xs n t r → Tried xs n t (Some c)
  free_at e T = subst (Tried xs n t) e T
