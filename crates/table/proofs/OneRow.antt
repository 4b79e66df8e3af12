-- A row that a loop puts into a table, one number after the other. Assumes nothing.
use Prim.Native.Nat.{ℕ, ◌+◌, ◌*◌, ◌-◌, ◌≤◌, ◌<◌}
use mathlib.Core.Path.{◌≡◌, refl, sym, ◌∙◌}
use mathlib.Core.Logic.{◌⊎◌, inl, inr}
use mathlib.Core.List.{List, []}
use native.Mathlib.Decide.{dec_lt, ℕ_discrete}
use native.Mathlib.Omega.{arith}
use lib.ListN.{length, get_or, set, take, length-set}
use lib.Seq.{get_or-set_same, get_or-set_other, get_or-take, length-take-le, ext_get_or}
use Rattle.base.proofs.Find.{here_or_on}
use Rattle.table.specs.Table.{PutRow}
use Rattle.table.proofs.ColumnsApart.{column_within, same_column, same_row, At, at}

pub put_none : (n k j : ℕ) (t : List ℕ) → PutRow n k j [] t t
put_none n k j t = record { long = refl; here = λ i h. absurd (omega arith); kept = λ p h. refl }

-- one store more
pub put_on : {n k j : ℕ} {t₀ t : List ℕ} (vs : List ℕ) (i : ℕ) → PutRow n k j (take i vs) t₀ t → k < n → i < length vs → (j + i) * n + k < length t
    → PutRow n k j (take (i + 1) vs) t₀ (set t ((j + i) * n + k) (get_or vs i 0))
put_on {n} {k} {j} {t₀} {t} vs i P l h w =
    record {
      long = length-set t here v ∙ P.long;
      here = λ a b. put a (here_or_on a i (omega (arith, after))) ∙ sym (get_or-take (i + 1) vs a 0 (omega (arith, after)));
      kept = λ p f. stays p (f i (omega (arith, after))) ∙ P.kept p (λ a b. f a (omega (arith, before, after)));
    }
  where
    here : ℕ
    here = (j + i) * n + k

    v : ℕ
    v = get_or vs i 0

    before : length (take i vs) ≡ i
    before = length-take-le i vs (omega arith)

    after : length (take (i + 1) vs) ≡ i + 1
    after = length-take-le (i + 1) vs (omega arith)

    stays : (p : ℕ) → ¬ (p ≡ here) → get_or (set t here v) p 0 ≡ get_or t p 0
    stays p d = get_or-set_other t here p v 0 d

    put : (a : ℕ) → (i ≡ a) ⊎ (a < i) → get_or (set t here v) ((j + a) * n + k) 0 ≡ get_or vs a 0
    put a (inl e) = rw (← e) (get_or-set_same t here v 0 w)
    put a (inr b) =
        stays ((j + a) * n + k) (λ e. let q = same_column n (j + a) k (j + i) k l l e in omega arith)
        ∙ P.here a (omega (arith, before))
        ∙ get_or-take i vs a 0 b

-- the columns past it keep their values
pub put_keeps : {n k j : ℕ} {vs t t' : List ℕ} (m : ℕ) → k < n → j + length vs ≤ m → PutRow n k j vs t t' → (p : ℕ) → m * n ≤ p → get_or t' p 0 ≡ get_or t p 0
put_keeps {n} {k} {j} m l w P p h = P.kept p (λ i b e. omega (arith, column_within m (j + i) n (omega arith)))

-- what a row was put into is one table
pub put_same : {n k j : ℕ} {vs t t' t'' : List ℕ} (m : ℕ) → k < n → length t ≡ m * n → PutRow n k j vs t t' → PutRow n k j vs t t'' → t' ≡ t''
put_same {n} {k} {j} {vs} {t} {t'} {t''} m l e P Q =
    ext_get_or 0 t' t'' (P.long ∙ sym Q.long) (λ p h. go p (at m n p (omega (arith, P.long))))
  where
    alike : (p : ℕ) → ((i : ℕ) → i < length vs → ¬ (p ≡ (j + i) * n + k)) → get_or t' p 0 ≡ get_or t'' p 0
    alike p f = P.kept p f ∙ sym (Q.kept p f)

    go : (p : ℕ) → At m n p → get_or t' p 0 ≡ get_or t'' p 0
    go p a = split (ℕ_discrete a.row k) (dec_lt a.column j) (dec_lt a.column (j + length vs))
      where
        split : Dec (a.row ≡ k) → Dec (a.column < j) → Dec (a.column < j + length vs) → get_or t' p 0 ≡ get_or t'' p 0
        split (no f) b c = alike p (λ i h q. f (same_row n a.column a.row (j + i) k a.row_in l (sym a.place ∙ q)))
        split (yes r) (yes b) c =
            alike p (λ i h q. let w = same_column n a.column a.row (j + i) k a.row_in l (sym a.place ∙ q) in omega arith)
        split (yes r) (no b) (no c) =
            alike p (λ i h q. let w = same_column n a.column a.row (j + i) k a.row_in l (sym a.place ∙ q) in omega (arith, c))
        split (yes r) (no b) (yes c) =
            let i : ℕ = a.column - j in
            let q : a.column ≡ j + i = omega (arith, b) in
            let w : p ≡ (j + i) * n + k = a.place ∙ (λ κ. q κ * n + r κ) in
            rw w (P.here i (omega (arith, b)) ∙ sym (Q.here i (omega (arith, b))))
