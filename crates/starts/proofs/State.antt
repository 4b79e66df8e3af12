-- A run and its table: what the columns that a carry reads tell, and what a start changes of both. Assumes nothing.
use Rattle.std.specs.Prelude.{Some}
use Prim.Native.Nat.{ℕ, zero, suc, ◌+◌, ◌*◌, ◌≤◌, ◌<◌, max}
use mathlib.Core.Path.{◌≡◌, refl, sym, ◌∙◌, ap, subst}
use mathlib.Core.Logic.{◌⊎◌, inl, inr}
use mathlib.Core.List.{List, [], ◌∷◌, ◌++◌}
use native.Mathlib.Omega.{arith}
use native.Mathlib.Decide.{ℕ_discrete}
use lib.ListN.{length, get_or, take, drop, get_or-append}
use Rattle.model.specs.declared.record.Record.{Record}
use Rattle.model.specs.Model.{Run, IsRecord, WithinLimits, rec, task, task_of, due, rank, preceding, ready}
use Rattle.model.specs.Rules.{Jobs}
use Rattle.model.specs.Carry.{begun, starts}
use Rattle.carrytheory.proofs.Depends.{same_due}
use Rattle.carrytheory.proofs.Preceding.{preceding_is, record_before, before_record}
use Rattle.carrytheory.proofs.StartChanges.{as_many, here, elsewhere, job_stays, release_stays, rank_stays, ready_stays, ready_next}
use Rattle.table.specs.Table.{Lent, PutRow, columns, number_at, row, earliest, latest, column_of}
use Rattle.table.proofs.ColumnsApart.{same_column, same_row}
use Rattle.table.proofs.LentLaws.{sized_as, column_of_lem}

-- The columns that are read
-- -------------------------
module _ {σ : Run} {t : List ℕ} {n : ℕ} (L : Lent columns σ t n) where
  number : (j k : ℕ) → j < columns → k < n → get_or (column_of n t j) k 0 ≡ number_at σ j k
  number j k h l = (column_of_lem L j h h).each k (omega (arith, L.count))

  pub job_of_lem : (k : ℕ) → k < n → get_or (column_of n t 1) k 0 ≡ (rec σ k).job
  job_of_lem k = number 1 k (omega arith)

  pub end_of : (k : ℕ) → k < n → get_or (column_of n t 4) k 0 ≡ (rec σ k).end
  end_of k = number 4 k (omega arith)

  pub core_of : (k : ℕ) → k < n → get_or (column_of n t 5) k 0 ≡ (rec σ k).core
  core_of k = number 5 k (omega arith)

  pub rank_of : (k : ℕ) → k < n → get_or (column_of n t 11) k 0 ≡ rank σ k
  rank_of k = number 11 k (omega arith)

  pub ready_of : (k : ℕ) → k < n → get_or (column_of n t 12) k 0 ≡ ready σ k
  ready_of k = number 12 k (omega arith)

-- A start
-- -------

-- the row of record a with the start, end and core of another, up to the ready instant; and with a ready instant
abbrev front_with : Run → ℕ → Record → List ℕ
front_with σ a x = (rec σ a).task ∷ (rec σ a).job ∷ (rec σ a).release ∷ x.start ∷ x.end ∷ x.core ∷ take 6 (drop 6 (row σ a))

abbrev row_with : Run → ℕ → Record → ℕ → List ℕ
row_with σ a x r = front_with σ a x ++ (r ∷ [])

module _ (σ : Run) (u k c : ℕ) (range : IsRecord σ k) where
  abbrev W : ℕ
  W = (task_of σ k).greatest

  abbrev σ' : Run
  σ' = starts σ u k c

  limits_stay : WithinLimits σ → WithinLimits σ'
  limits_stay X =
      record {
        setting = X.setting;
        task_total = X.task_total;
        tasks = X.tasks;
        job_total = X.job_total;
        record_total = rw (as_many σ u k c W) X.record_total;
      }

  task_stays : (a : ℕ) → task_of σ' a ≡ task_of σ a
  task_stays a = ap (λ q. task σ.tasks q.0) (job_stays σ u k c W range a)

  due_stays : (a : ℕ) → due σ' a ≡ due σ a
  due_stays a = same_due σ' σ a a refl (job_stays σ u k c W range a) (release_stays σ u k c W range a)

  earliest_stays : (a : ℕ) → earliest σ' a ≡ earliest σ a
  unfolding earliest
  earliest_stays a = let e = ap (λ q. q.1) (job_stays σ u k c W range a) in rw (task_stays a, e)

  latest_stays : (a : ℕ) → latest σ' a ≡ latest σ a
  unfolding latest
  latest_stays a = let e = ap (λ q. q.1) (job_stays σ u k c W range a) in rw (task_stays a, e)

  -- of every row only start, end and core can change, and the ready instant
  row_then : (a : ℕ) → row σ' a ≡ row_with σ a (rec σ' a) (ready σ' a)
  row_then a =
      let j = job_stays σ u k c W range a in
      let e0 : (rec σ' a).task ≡ (rec σ a).task = ap (λ q. q.0) j in
      let e1 : (rec σ' a).job ≡ (rec σ a).job = ap (λ q. q.1) j in
      let r = release_stays σ u k c W range a in
      rw (e1, r, earliest_stays a, latest_stays a, due_stays a, rank_stays σ u k c W range a, e0)

  -- the ready instant changes of the next job of its task alone
  module _ (J : Jobs σ) where
    next_only : (a : ℕ) → IsRecord σ a → preceding σ a ≡ Some k → (suc k ≡ a) × (1 ≤ (rec σ a).job)
    next_only a h e = (before_record σ J a k h e, omega (arith, (preceding_is σ a k e).one_less))

    pub ready_same : (a : ℕ) → IsRecord σ a → (¬ (a ≡ suc k)) ⊎ ((rec σ a).job ≡ 0) → ready (starts σ u k c) a ≡ ready σ a
    ready_same a h why = ready_stays σ u k c W range a (λ e. clash (next_only a h e) why)
      where
        clash : (suc k ≡ a) × (1 ≤ (rec σ a).job) → (¬ (a ≡ suc k)) ⊎ ((rec σ a).job ≡ 0) → ⊥
        clash (e, l) (inl f) = f (sym e)
        clash (e, l) (inr z) = omega arith

    pub ready_after : IsRecord σ (suc k) → 1 ≤ (rec σ (suc k)).job
        → ready (starts σ u k c) (suc k) ≡ max (rec σ (suc k)).release (u + (task_of σ k).greatest)
    ready_after h l = ready_next σ u k c W range (suc k) (record_before σ J (suc k) k h l refl)

-- Job k starts at u on core c and ends at e: three numbers of its row are put into the table.
module _ {σ : Run} {t t' : List ℕ} {n u k c e : ℕ} (L : Lent columns σ t n) (range : k < n) (P : PutRow n k 3 (u ∷ e ∷ c ∷ []) t t')
    (ends : e ≡ u + (task_of σ k).greatest) where
  is_record : IsRecord σ k
  is_record = omega (arith, L.count)

  kept : (j a : ℕ) → j < columns → a < n → (¬ (a ≡ k)) ⊎ ((j < 3) ⊎ (6 ≤ j)) → get_or t' (j * n + a) 0 ≡ number_at σ j a
  kept j a h l why =
      P.kept (j * n + a) (λ i b z. clash i b (same_row n j a (3 + i) k l range z) (same_column n j a (3 + i) k l range z) why) ∙ L.number j a h l
    where
      clash : (i : ℕ) → i < 3 → a ≡ k → j ≡ 3 + i → (¬ (a ≡ k)) ⊎ ((j < 3) ⊎ (6 ≤ j)) → ⊥
      clash i b p q (inl f) = f p
      clash i b p q (inr (inl f)) = omega arith
      clash i b p q (inr (inr f)) = omega arith

  -- the row of job k, and every other
  put : (j : ℕ) → j < columns → get_or t' (j * n + k) 0 ≡ get_or (row_with σ k (begun σ u k c (task_of σ k).greatest) (ready σ k)) j 0
  put zero h = kept 0 k h range (inr (inl (omega arith)))
  put (suc zero) h = kept 1 k h range (inr (inl (omega arith)))
  put (suc (suc zero)) h = kept 2 k h range (inr (inl (omega arith)))
  put (suc (suc (suc zero))) h = P.here 0 (omega arith)
  put (suc (suc (suc (suc zero)))) h = P.here 1 (omega arith) ∙ ends
  put (suc (suc (suc (suc (suc zero))))) h = P.here 2 (omega arith)
  put (suc (suc (suc (suc (suc (suc j)))))) h = kept (suc (suc (suc (suc (suc (suc j)))))) k h range (inr (inr (omega arith)))

  row_put : (j a : ℕ) → j < columns → a < n → get_or t' (j * n + a) 0 ≡ get_or (row_with σ a (rec (starts σ u k c) a) (ready σ a)) j 0
  row_put j a h l = go (ℕ_discrete a k)
    where
      go : Dec (a ≡ k) → get_or t' (j * n + a) 0 ≡ get_or (row_with σ a (rec (starts σ u k c) a) (ready σ a)) j 0
      go (no f) =
          kept j a h l (inl f)
          ∙ ap (λ x. get_or (row_with σ a x (ready σ a)) j 0) (sym (elsewhere σ u k c (task_of σ k).greatest a f))
      go (yes z) =
          subst (λ a. get_or t' (j * n + a) 0 ≡ get_or (row_with σ a (rec (starts σ u k c) a) (ready σ a)) j 0) (sym z)
          (put j h ∙ ap (λ x. get_or (row_with σ k x (ready σ k)) j 0) (sym (here σ u k c (task_of σ k).greatest is_record)))

  -- so all stands there but a ready instant that changes
  number_then : (j a : ℕ) → j < columns → a < n → (j < 12) ⊎ (ready (starts σ u k c) a ≡ ready σ a)
      → get_or t' (j * n + a) 0 ≡ number_at (starts σ u k c) j a
  number_then j a h l why = row_put j a h l ∙ go why ∙ ap (λ r. get_or r j 0) (sym (row_then σ u k c is_record a))
    where
      x : Record
      x = rec (starts σ u k c) a

      front : (r : ℕ) → j < 12 → get_or (row_with σ a x r) j 0 ≡ get_or (front_with σ a x) j 0
      front r b = get_or-append (front_with σ a x) (r ∷ []) 0 j b

      go : (j < 12) ⊎ (ready (starts σ u k c) a ≡ ready σ a)
          → get_or (row_with σ a x (ready σ a)) j 0 ≡ get_or (row_with σ a x (ready (starts σ u k c) a)) j 0
      go (inl b) = front (ready σ a) b ∙ sym (front (ready (starts σ u k c) a) b)
      go (inr e) = ap (λ r. get_or (row_with σ a x r) j 0) (sym e)

  lent_with : {s : List ℕ} → length s ≡ length t → ((j a : ℕ) → j < columns → a < n → get_or s (j * n + a) 0 ≡ number_at (starts σ u k c) j a)
      → Lent columns (starts σ u k c) s n
  lent_with long number =
      record {
        limits = limits_stay σ u k c is_record L.limits;
        count = L.count ∙ sym (as_many σ u k c (task_of σ k).greatest);
        sized = sized_as long L.sized;
        number = number;
      }

  module _ (J : Jobs σ) where
    -- no job of its task comes next
    pub lent_last : (n ≤ k + 1) ⊎ (get_or t' (1 * n + (k + 1)) 0 ≡ 0) → Lent columns (starts σ u k c) t' n
    lent_last why = lent_with P.long (λ j a h l. number_then j a h l (inr (ready_same σ u k c is_record J a (omega (arith, L.count)) (go a l why))))
      where
        go : (a : ℕ) → a < n → (n ≤ k + 1) ⊎ (get_or t' (1 * n + (k + 1)) 0 ≡ 0) → (¬ (a ≡ suc k)) ⊎ ((rec σ a).job ≡ 0)
        go a l (inl b) = inl (λ e. omega arith)
        go a l (inr z) = at (ℕ_discrete a (suc k))
          where
            at : Dec (a ≡ suc k) → (¬ (a ≡ suc k)) ⊎ ((rec σ a).job ≡ 0)
            at (no f) = inl f
            at (yes y) =
                let w : k + 1 ≡ a = omega arith in
                inr (sym (kept 1 a (omega arith) l (inl (λ f. omega arith))) ∙ rw w at z)

    -- one does, and its ready instant is put there too
    pub lent_next : {s : List ℕ} {r : ℕ} → k + 1 < n → ¬ (get_or t' (1 * n + (k + 1)) 0 ≡ 0) → r ≡ max (get_or t' (2 * n + (k + 1)) 0) e
        → PutRow n (k + 1) 12 (r ∷ []) t' s → Lent columns (starts σ u k c) s n
    lent_next {s} {r} b f q Q = lent_with (Q.long ∙ P.long) (λ j a h l. go j a h l (ℕ_discrete a (k + 1)) (ℕ_discrete j 12))
      where
        next : IsRecord σ (suc k)
        next = omega (arith, L.count)

        other : ¬ (suc k ≡ k)
        other z = omega arith

        at_next : (j : ℕ) → j < columns → get_or t' (j * n + (k + 1)) 0 ≡ number_at σ j (suc k)
        at_next j h = let w : k + 1 ≡ suc k = omega arith in rw w (kept j (suc k) h (omega arith) (inl other))

        job : 1 ≤ (rec σ (suc k)).job
        job = let z = at_next 1 (omega arith) in omega (arith, f)

        stays : (j a : ℕ) → j < columns → a < n → (¬ (a ≡ k + 1)) ⊎ (¬ (j ≡ 12)) → (j < 12) ⊎ (ready (starts σ u k c) a ≡ ready σ a)
            → get_or s (j * n + a) 0 ≡ number_at (starts σ u k c) j a
        stays j a h l why same =
            Q.kept (j * n + a) (λ i d z. clash i d (same_row n j a (12 + i) (k + 1) l b z) (same_column n j a (12 + i) (k + 1) l b z) why)
            ∙ number_then j a h l same
          where
            clash : (i : ℕ) → i < 1 → a ≡ k + 1 → j ≡ 12 + i → (¬ (a ≡ k + 1)) ⊎ (¬ (j ≡ 12)) → ⊥
            clash i d p q (inl g) = g p
            clash i d p q (inr g) = g (omega arith)

        go : (j a : ℕ) → j < columns → a < n → Dec (a ≡ k + 1) → Dec (j ≡ 12) → get_or s (j * n + a) 0 ≡ number_at (starts σ u k c) j a
        go j a h l (yes x) (yes y) =
            let w : a ≡ suc k = omega arith in
            rw (y, w)
            (let z : 12 * n + suc k ≡ (12 + 0) * n + (k + 1) = omega arith in
            rw z (Q.here 0 (omega arith) ∙ q
            ∙ (λ κ. max (at_next 2 (omega arith) κ) (ends κ))
            ∙ sym (ready_after σ u k c is_record J next job)))
        go j a h l (no x) d = stays j a h l (inl x) (inr (ready_same σ u k c is_record J a (omega (arith, L.count)) (inl (λ z. x (omega arith)))))
        go j a h l (yes x) (no y) = stays j a h l (inr y) (inl (omega (arith, y)))
