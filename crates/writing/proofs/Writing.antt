-- Numbers put one after the other are put together; rows, one after the other, are a file's sections. Assumes nothing.
use Prim.Native.Nat.{ℕ, zero, suc, ◌+◌, ◌*◌, ◌≤◌, ◌<◌}
use mathlib.Core.Path.{◌≡◌, refl, sym, ◌∙◌, ap}
use mathlib.Core.List.{List, [], ◌∷◌, ◌++◌, append_assoc, append-nil}
use native.Mathlib.Numerals.{add-one}
use native.Mathlib.Omega.{arith}
use lib.ListN.{length, get_or, take, length-append}
use lib.Seq.{take-suc, take-length}
use Rattle.model.specs.declared.task.Task.{Task}
use Rattle.model.specs.Model.{Run, task, rec, no_task, no_record}
use Rattle.model.specs.File.{bytes, bytes_of, joined, setting_numbers, task_numbers, record_numbers}
use Rattle.model.specs.Calls.{front}
use Rattle.model.proofs.Joined.{joined_append}
use Rattle.openfile.specs.declared.head.Head.{Head}
use Rattle.openfile.proofs.Leading.{leads_take}
use Rattle.table.specs.Table.{recorded, number_at}
use Rattle.wire.specs.Put.{put}
use Rattle.wire.proofs.Put.{put_next}
use Rattle.writing.specs.WrittenRows.{puts, Wrote, rows, task_row, record_row}
use Rattle.writing.specs.RunOfTable.{Tabled}

-- Numbers one after the other.
-- ----------------------------
puts_more : (xs ys s : List ℕ) (i j : ℕ) → j ≡ i + 4 * length xs → puts (puts s i xs) j ys ≡ puts s i (xs ++ ys)
unfolding puts
puts_more [] ys s i j e = let z : j ≡ i = omega arith in ap (λ k. puts s k ys) z
puts_more (x ∷ xs) ys s i j e = puts_more xs ys (put s i x) (i + 4) j (omega arith)

puts_front : (vs us s : List ℕ) (i : ℕ) → 4 * length us ≡ i → puts (front (bytes_of us) s) i vs ≡ front (bytes_of (us ++ vs)) s
unfolding puts
puts_front [] us s i e = rw append-nil
puts_front (v ∷ vs) us s i e =
    let l : 4 * length (us ++ (v ∷ [])) ≡ i + 4 = omega (arith, length-append us (v ∷ [])) in
    rw (put_next us s i v e) (puts_front vs (us ++ (v ∷ [])) s (i + 4) l ∙ ap (λ ws. front (bytes_of ws) s) (append_assoc us (v ∷ []) vs))

pub wrote_put : {s t : List ℕ} {i v : ℕ} → t ≡ put s i v → length t ≡ length s → Wrote s i (v ∷ []) t (i + 4)
unfolding puts
wrote_put e l = record { place = omega arith; slice = e; long = l }

wrote_more : {s t u xs ys : List ℕ} {i j k : ℕ} → Wrote s i xs t j → Wrote t j ys u k → Wrote s i (xs ++ ys) u k
wrote_more {s} {t} {u} {xs} {ys} {i} {j} {k} w v = record {
  place = omega (arith, length-append xs ys);
  slice = v.slice ∙ rw w.slice (puts_more xs ys s i j w.place);
  long = v.long ∙ w.long;
}

-- the first numbers of a list, one more and one more
pub numbers_none : (s : List ℕ) (i : ℕ) → Wrote s i [] s (i + 4 * 0)
unfolding puts
numbers_none s i = record { place = refl; slice = refl; long = refl }

pub numbers_on : {s t u : List ℕ} {i : ℕ} (vs : List ℕ) (k : ℕ) → Wrote s i (take k vs) t (i + 4 * k) → k < length vs
    → u ≡ put t (i + 4 * k) (get_or vs k 0) → length u ≡ length t → Wrote s i (take (k + 1) vs) u (i + 4 * (k + 1))
numbers_on {i = i} vs k w h e l =
    let j : i + 4 * (k + 1) ≡ i + 4 * k + 4 = omega arith in
    rw (j, add-one k, take-suc vs k 0 h) (wrote_more w (wrote_put e l))

-- Rows.
-- -----
pub rows_none : (row : ℕ → List ℕ) {s : List ℕ} {i j : ℕ} → j ≡ i → Wrote s i (rows row 0) s j
unfolding puts rows
rows_none row e = record { place = omega arith; slice = refl; long = refl }

pub rows_more : (row : ℕ → List ℕ) (n : ℕ) {s t u vs : List ℕ} {i j j' k l : ℕ}
    → Wrote s i (rows row n) t j → Wrote t j' vs u k → j' ≡ j → vs ≡ row n → k ≡ l → Wrote s i (rows row (n + 1)) u l
unfolding rows
rows_more row n w v p e q = rw (add-one n, ← q, ← e) (wrote_more w (rw p at v))

-- rows that are the numbers of the entries of a list
module _ {A : Type 0} (f : A → List ℕ) (d : A) (row : ℕ → List ℕ) (xs : List A) (is : (k : ℕ) → k < length xs → row k ≡ f (get_or xs k d)) where
  rows_first : (n : ℕ) → n ≤ length xs → rows row n ≡ joined f (take n xs)
  unfolding rows
  rows_first zero h = refl
  rows_first (suc n) h = rw (take-suc xs n d (omega arith), joined_append, append-nil, is n (omega arith), rows_first n (omega arith))

  rows_joined : (n : ℕ) → n ≡ length xs → rows row n ≡ joined f xs
  rows_joined n e = ap (rows row) e ∙ rows_first (length xs) (omega arith) ∙ ap (joined f) (take-length xs)

-- The file of a run.
-- ------------------
module _ {h : Head} {H : ℕ} {l : List Task} {t : List ℕ} {m : ℕ} {σ : Run} (T : Tabled h H l t m σ) where
  -- the first entries of the list
  abbrev listed : List Task
  listed = take h.tasks l

  listed_is : listed ≡ σ.tasks
  listed_is = sym (leads_take T.tasks T.task_total)

  pub listed_long : length listed ≡ h.tasks
  listed_long = ap length listed_is ∙ sym T.task_total

  task_is : (k : ℕ) → k < length listed → task_row listed k ≡ task_numbers (task listed k)
  unfolding task_row
  task_is k i = refl

  record_is : (k : ℕ) → k < length σ.records → record_row t m k ≡ record_numbers (rec σ k)
  unfolding record_row
  record_is k r =
      let i : k < m = omega (arith, T.table.count) in
      let at : (j : ℕ) → j < recorded → get_or t (j * m + k) 0 ≡ number_at σ j k = λ j u. T.table.number j k u i in
      rw (at 0 (omega arith), at 1 (omega arith), at 2 (omega arith), at 3 (omega arith), at 4 (omega arith), at 5 (omega arith))

  abbrev written : List ℕ
  written = (2 ∷ h.setting.cores ∷ H ∷ h.tasks ∷ []) ++ rows (task_row listed) (length listed) ++ (m ∷ []) ++ rows (record_row t m) m

  bytes_are : bytes_of written ≡ bytes σ
  unfolding bytes
  bytes_are =
      let tasks = rows_joined task_numbers no_task (task_row listed) listed task_is (length listed) refl ∙ ap (joined task_numbers) listed_is in
      let records = rows_joined record_numbers no_record (record_row t m) σ.records record_is m T.table.count in
      let after : List ℕ = length σ.records ∷ joined record_numbers σ.records in
      let e : written ≡ 2 ∷ setting_numbers σ.setting ++ (length σ.tasks ∷ joined task_numbers σ.tasks) ++ after =
      rw (tasks, records, append_assoc (joined task_numbers σ.tasks), T.setting, T.task_total, T.table.count) in
      ap bytes_of e

  -- the head, the tasks, the record count and the records, one after the other
  pub wrote_run : {s u v w x : List ℕ} {i j j' k o : ℕ} → Wrote s 0 (2 ∷ h.setting.cores ∷ H ∷ h.tasks ∷ []) u i
      → Wrote u i (rows (task_row listed) (length listed)) v j → j' ≡ j → Wrote v j' (m ∷ []) w k → Wrote w k (rows (record_row t m) m) x o
      → x ≡ front (bytes σ) s
  wrote_run {s} p q e r o =
      (wrote_more (wrote_more (wrote_more p q) (rw e at r)) o).slice ∙ puts_front written [] s 0 refl ∙ ap (λ bs. front bs s) bytes_are
