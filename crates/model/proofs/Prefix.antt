-- Bytes past the first 12,949 cannot alter what a file tells: the longest file has 12,948. Assumes nothing.
use Prim.Native.Nat.{ℕ, zero, suc, ◌+◌, ◌*◌, ◌≤◌, ◌<◌}
use mathlib.Core.Path.{◌≡◌, refl, sym, ◌∙◌, ap}
use mathlib.Core.Bool.{Bool, true, false}
use mathlib.Core.List.{List, ◌∷◌}
use native.Mathlib.Omega.{arith}
use native.Mathlib.Decide.{dec_le}
use lib.ListN.{length, get_or, take}
use lib.Seq.{get_or-take, length-take-le, take_all}
use lib.Dec.{leb}
use Rattle.base.proofs.Test.{says_leb, says_true, says_false}
use Rattle.model.specs.declared.setting.Setting.{Setting}
use Rattle.model.specs.declared.task.Task.{Task}
use Rattle.model.specs.Model.{most_tasks, most_records}
use Rattle.model.specs.File.{num, setting_at, task_at, entries, task_size, record_size, tasks_place, records_place, longest_file, Read, gate, has, read_records, read_tasks, read}
use Rattle.model.specs.Compute.Verdict.{check, check_of}
use Rattle.model.proofs.Limits.{says_within}

gate_same : (ν : ℕ) (t u : Bool) (r s : Read) → t ≡ u → (u ≡ true → r ≡ s) → gate ν t r ≡ gate ν u s
unfolding gate
gate_same ν t true r s e f = rw e (f refl)
gate_same ν t false r s e f = rw e

entries_same : {A : Type 0} (f g : ℕ → A) (s i n : ℕ) → ((j : ℕ) → j + s ≤ i + s * n → f j ≡ g j) → entries f s i n ≡ entries g s i n
entries_same f g s i zero h = refl
entries_same f g s i (suc n) h =
    let p = h i (omega arith) in
    let q = entries_same f g s (i + s) n (λ j l. h j (omega arith)) in
    λ κ. p κ ∷ q κ

-- Two files longer than the longest, with the same bytes to there, are read alike: neither ends where its records do.
module _ (b c : List ℕ) (b-long : longest_file < length b) (c-long : longest_file < length c) (same : (i : ℕ) → i ≤ longest_file → get_or c i 0 ≡ get_or b i 0) where
  num_same : (i : ℕ) → i + 4 ≤ longest_file + 1 → num c i ≡ num b i
  num_same i h = rw (same i (omega arith), same (i + 1) (omega arith), same (i + 2) (omega arith), same (i + 3) (omega arith))

  has_same : (k : ℕ) → k ≤ longest_file + 1 → has c k ≡ has b k
  has_same k h = says_true (says_leb k (length c)) (omega arith) ∙ sym (says_true (says_leb k (length b)) (omega arith))

  setting_same : setting_at c 4 ≡ setting_at b 4
  setting_same = rw (num_same 4 (omega arith), num_same 8 (omega arith))

  task_same : (i : ℕ) → i + task_size ≤ longest_file + 1 → task_at c i ≡ task_at b i
  task_same i h =
      rw (num_same i (omega arith), num_same (i + 4) (omega arith), num_same (i + 8) (omega arith), num_same (i + 12) (omega arith), num_same (i + 16) (omega arith))

  ends_later : (k : ℕ) → k ≤ longest_file → leb (length c) k ≡ leb (length b) k
  ends_later k h = says_false (says_leb (length c) k) (omega arith) ∙ sym (says_false (says_leb (length b) k) (omega arith))

  records_same : (σ : Setting) (τs : List Task) (i : ℕ) → i ≤ records_place most_tasks → read_records c σ τs i ≡ read_records b σ τs i
  unfolding read_records
  records_same σ τs i h =
      let n = num b i in
      let end = i + 4 + record_size * n in
      rw (num_same i (omega arith))
      (gate_same 1 _ _ _ _ (has_same (i + 4) (omega arith)) (λ _.
      gate_same 7 _ _ _ _ refl (λ t. let few = (says_leb n most_records).sound t in
      gate_same 1 _ _ _ _ (has_same end (omega arith)) (λ _.
      gate_same 8 _ _ _ _ (ends_later end (omega arith)) (λ t. let ends = (says_leb (length b) end).sound t in absurd (omega arith))))))

  tasks_same : (σ : Setting) → read_tasks c σ ≡ read_tasks b σ
  unfolding read_tasks
  tasks_same σ =
      let n = num b tasks_place in
      let alike = entries_same (task_at c) (task_at b) task_size (tasks_place + 4) n in
      rw (num_same tasks_place (omega arith))
      (gate_same 1 _ _ _ _ (has_same (tasks_place + 4) (omega arith)) (λ _.
      gate_same 4 _ _ _ _ refl (λ t. let few = (says_within 1 most_tasks n).sound t in
      gate_same 1 _ _ _ _ (has_same (records_place n) (omega arith)) (λ _.
      rw (alike (λ j l. task_same j (omega arith)), records_same σ (entries (task_at b) task_size (tasks_place + 4) n) (records_place n) (omega arith))))))

  read_same : read c ≡ read b
  unfolding read
  read_same =
      rw (num_same 0 (omega arith), setting_same)
      (gate_same 1 _ _ _ _ (has_same 4 (omega arith)) (λ _.
      gate_same 2 _ _ _ _ refl (λ _.
      gate_same 1 _ _ _ _ (has_same tasks_place (omega arith)) (λ _.
      gate_same 3 _ _ _ _ refl (λ _. tasks_same (setting_at b 4))))))

-- a file that is no longer than n is its own beginning
pub read_prefix : (b : List ℕ) (n : ℕ) → longest_file < n → read (take n b) ≡ read b
read_prefix b n h = go (dec_le (length b) n)
  where
    go : Dec (length b ≤ n) → read (take n b) ≡ read b
    go (yes l) = ap read (take_all n b l)
    go (no l) =
        let e = length-take-le n b (omega (arith, l)) in
        read_same b (take n b) (omega (arith, l)) (omega arith) (λ i k. get_or-take n b i 0 (omega arith))

pub check_prefix : (b : List ℕ) (n : ℕ) → longest_file < n → check (take n b) ≡ check b
unfolding check
check_prefix b n h = ap check_of (read_prefix b n h)
