-- A run's table: its columns, a column more, a row more; and that it has no other entries. Assumes nothing.
use Prim.Native.Nat.{ℕ, ◌+◌, ◌*◌, ◌-◌, ◌≤◌, ◌<◌}
use mathlib.Core.Path.{◌≡◌, refl, sym, ◌∙◌, ap, subst}
use mathlib.Core.Logic.{◌⊎◌, inl, inr}
use mathlib.Core.List.{List}
use native.Mathlib.Decide.{dec_lt}
use native.Mathlib.Nat.{suc-mul}
use native.Mathlib.Numerals.{add-one}
use native.Mathlib.Omega.{arith}
use lib.ListN.{length, get_or, take, drop, length-take, length-drop, get_or-eq_default}
use lib.Seq.{length-take-le, get_or-take, get_or-drop, ext_get_or}
use Rattle.base.specs.Fill.{Fills}
use Rattle.base.proofs.Find.{here_or_on}
use Rattle.model.specs.Model.{Run, WithinLimits}
use Rattle.table.specs.Table.{columns, row, number_at, Sized, column_of, Lent, Loads, Rows, PutRow, ForEach}
use Rattle.table.proofs.ColumnsApart.{column_within, same_column, same_row, at}

-- a table as long as another
pub sized_as : {t t' : List ℕ} {n : ℕ} → length t' ≡ length t → Sized t n → Sized t' n
sized_as e S = record { long = e ∙ S.long; few = S.few }

-- What is lent
-- ------------
module _ {m : ℕ} {ρ : Run} {t : List ℕ} {n : ℕ} (L : Lent m ρ t n) where
  -- the number of record k in column j, by the place where it stands
  pub number_of : (j k p : ℕ) → j < m → k < n → p ≡ j * n + k → get_or t p 0 ≡ number_at ρ j k
  number_of j k p h l e = ap (λ i. get_or t i 0) e ∙ L.number j k h l

  -- a column, as a part of the table
  pub column_of_lem : (j : ℕ) → j < m → j < columns → ForEach ρ (column_of n t j) (number_at ρ j)
  column_of_lem j h l =
      record {
        long = length-take-le n (drop (j * n) t) (simp length-drop (omega (arith, column_within columns j n l, L.sized.long))) ∙ L.count;
        each = λ k i. let r : k < n = omega (arith, L.count) in get_or-take n (drop (j * n) t) k 0 r ∙ get_or-drop (j * n) t k 0 ∙ L.number j k h r;
      }

  pub lent_fewer : (j : ℕ) → j ≤ m → Lent j ρ t n
  lent_fewer j h =
      record { limits = L.limits; count = L.count; sized = L.sized; number = λ i k l. L.number i k (omega arith) }

  -- a column more
  pub lent_on : {t' : List ℕ} → Fills t (m * n) n (number_at ρ m) t' → Lent (m + 1) ρ t' n
  lent_on {t'} F =
      record {
        limits = L.limits;
        count = L.count;
        sized = sized_as F.long L.sized;
        number = λ j k h l. go j k l (here_or_on j m (omega arith));
      }
    where
      go : (j k : ℕ) → k < n → (m ≡ j) ⊎ (j < m) → get_or t' (j * n + k) 0 ≡ number_at ρ j k
      go j k l (inl e) = rw (← e) (F.here k l)
      go j k l (inr h) = F.kept (j * n + k) (inl (omega (arith, column_within m j n h))) ∙ L.number j k h l

  pub rows_none : (M : ℕ) → Rows m M 0 ρ t n
  rows_none M = record { lent = L; rows = λ j k h l. absurd (omega arith) }

-- no column yet
pub lent_none : {ρ : Run} {t : List ℕ} {n : ℕ} → WithinLimits ρ → n ≡ length ρ.records → length t ≡ columns * n → Lent 0 ρ t n
lent_none W e l =
    record { limits = W; count = e; sized = record { long = l; few = omega (arith, W.record_total) }; number = λ j k h. absurd (omega arith) }

-- the same from the front on, with what stands past the columns
pub loads_none : {ρ : Run} {t : List ℕ} {n : ℕ} → Lent 0 ρ t n → Loads 0 ρ n t t
loads_none L = record { lent = L; kept = λ p h. refl }

pub loads_on : {m : ℕ} {ρ : Run} {n : ℕ} {t t' t'' : List ℕ} → Loads m ρ n t t' → Fills t' (m * n) n (number_at ρ m) t'' → Loads (m + 1) ρ n t t''
loads_on {m} {ρ} {n} F G =
    record {
      lent = lent_on F.lent G;
      kept = λ p h.
          let l : m * n + n ≤ p = omega (arith, suc-mul m n, ap (λ i. i * n) (add-one m)) in
          G.kept p (inr l) ∙ F.kept p (omega arith);
    }

-- Row after row
-- -------------
module _ {m M r : ℕ} {ρ : Run} {t : List ℕ} {n : ℕ} (R : Rows m M r ρ t n) where
  -- a row more
  pub rows_on : {vs t' : List ℕ} → r < n → PutRow n r m vs t t' → ((i : ℕ) → i < length vs → get_or vs i 0 ≡ number_at ρ (m + i) r)
      → M ≡ m + length vs → Rows m M (r + 1) ρ t' n
  rows_on {vs} {t'} h P e s = record { lent = lent; rows = λ j k l i. go j k l i (dec_lt j m) (here_or_on k r (omega arith)) }
    where
      L : Lent m ρ t n
      L = R.lent

      lent : Lent m ρ t' n
      lent =
          record {
            limits = L.limits;
            count = L.count;
            sized = sized_as P.long L.sized;
            number = λ j k l i.
                P.kept (j * n + k) (λ a b c. let q = same_column n j k (m + a) r i h c in omega arith) ∙ L.number j k l i;
          }

      go : (j k : ℕ) → j < M → k < r + 1 → Dec (j < m) → (r ≡ k) ⊎ (k < r) → get_or t' (j * n + k) 0 ≡ number_at ρ j k
      go j k l i (yes d) w = lent.number j k d (omega arith)
      go j k l i (no d) (inr w) =
          P.kept (j * n + k) (λ a b c. let q = same_row n j k (m + a) r (omega arith) h c in omega arith) ∙ R.rows j k l w
      go j k l i (no d) (inl w) =
          let q : j ≡ m + (j - m) = omega (arith, d) in
          let x : get_or t' (j * n + r) 0 ≡ number_at ρ j r =
          subst (λ (c : ℕ). get_or t' (c * n + r) 0 ≡ number_at ρ c r) (sym q) (P.here (j - m) (omega (arith, d)) ∙ e (j - m) (omega (arith, d))) in
          subst (λ (b : ℕ). get_or t' (j * n + b) 0 ≡ number_at ρ j b) w x

  -- the same, where the numbers are a part of the run's row
  pub rows_with : (c : ℕ) {vs t' : List ℕ} → r < n → PutRow n r m vs t t' → vs ≡ take c (drop m (row ρ r)) → M ≡ m + length vs → Rows m M (r + 1) ρ t' n
  rows_with c {vs} h P e s =
      rows_on h P (λ i l. ap (λ us. get_or us i 0) e ∙ get_or-take c (drop m (row ρ r)) i 0 (below i l) ∙ get_or-drop m (row ρ r) i 0) s
    where
      below : (i : ℕ) → i < length vs → i < c
      below i l = omega (arith, ap length e ∙ length-take c (drop m (row ρ r)))

-- all rows
pub rows_all : {m M : ℕ} {ρ : Run} {t : List ℕ} {n : ℕ} → Rows m M n ρ t n → Lent M ρ t n
rows_all R =
    let L = R.lent in
    record { limits = L.limits; count = L.count; sized = L.sized; number = R.rows }

-- Nothing else
-- ------------
module _ {m : ℕ} {ρ : Run} {n : ℕ} {t t' t'' : List ℕ} where
  pub loads_same : Loads m ρ n t t' → Loads m ρ n t t'' → t' ≡ t''
  loads_same F G = ext_get_or 0 t' t'' (F.lent.sized.long ∙ sym G.lent.sized.long) (λ p h. go p (dec_lt p (m * n)))
    where
      go : (p : ℕ) → Dec (p < m * n) → get_or t' p 0 ≡ get_or t'' p 0
      go p (yes l) =
          let a = at m n p l in
          number_of F.lent a.column a.row p a.column_in a.row_in a.place
          ∙ sym (number_of G.lent a.column a.row p a.column_in a.row_in a.place)
      go p (no l) = F.kept p (omega (arith, l)) ∙ sym (G.kept p (omega (arith, l)))

pub lent_same : {ρ : Run} {n : ℕ} {t t' : List ℕ} → Lent columns ρ t n → Lent columns ρ t' n → t ≡ t'
lent_same {ρ} {n} {t} {t'} L K =
    loads_same {t = t} (record { lent = L; kept = λ p h. refl })
    (record { lent = K; kept = λ p h. past t' p (omega (arith, K.sized.long)) ∙ sym (past t p (omega (arith, L.sized.long))) })
  where
    past : (l : List ℕ) (p : ℕ) → length l ≤ p → get_or l p 0 ≡ 0
    past l p h = get_or-eq_default l 0 h
