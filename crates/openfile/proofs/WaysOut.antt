-- The judgement of a file, gate by gate: one law for each way out of each of its parts. Assumes nothing.
use Rattle.std.specs.Prelude.{None, Some, Result, Ok, Err}
use Prim.Native.Nat.{ℕ, ◌+◌, ◌*◌, ◌≤◌, ◌<◌}
use mathlib.Core.Path.{◌≡◌, sym, ◌∙◌}
use mathlib.Core.Bool.{Bool, true, false, not}
use mathlib.Core.List.{List}
use lib.Dec.{leb, eqb}
use lib.ListN.{length}
use native.Mathlib.Omega.{arith}
use borrow.Author.Tests.{le-leb, lt-leb, eq-eqb, ne_eqb, not-true, not-false}
use Rattle.base.proofs.Test.{says_true, says_false}
use Rattle.model.specs.declared.setting.Setting.{Setting}
use Rattle.model.specs.declared.task.Task.{Task}
use Rattle.model.specs.Model.{most_tasks, most_jobs, most_records, total_jobs}
use Rattle.model.specs.File.{Read, gate, gate_task, num, setting_at, record_at, tasks_in, tasks_place, records_place, record_size, size_of, run_at, read_records, read_tasks, read}
use Rattle.model.specs.Compute.Limits.{within, setting_in_range, bad_task}
use Rattle.model.proofs.Limits.{says_within}
use Rattle.model.proofs.Reading.{length-entries}
use Rattle.openfile.specs.declared.head.Head.{Head}
use Rattle.openfile.specs.Head.{opened_of}

-- One gate
-- --------
shut : (ν : ℕ) (t : Bool) (r : Read) → t ≡ false → Err (ν, 0) ≡ opened_of (gate ν t r)
unfolding gate opened_of
shut ν t r e = rw e

pass : (ν : ℕ) (t : Bool) (r : Read) {o : Result Head (ℕ × ℕ)} → t ≡ true → o ≡ opened_of r → o ≡ opened_of (gate ν t r)
unfolding gate
pass ν t r e q = rw (e, q)

above : (ν m n : ℕ) (r : Read) → n < m → Err (ν, 0) ≡ opened_of (gate ν (leb m n) r)
above ν m n r h = shut ν (leb m n) r (lt-leb m n h)

upto : (ν m n : ℕ) (r : Read) {o : Result Head (ℕ × ℕ)} → m ≤ n → o ≡ opened_of r → o ≡ opened_of (gate ν (leb m n) r)
upto ν m n r h q = pass ν (leb m n) r (le-leb m n h) q

module _ (b : List ℕ) where
  abbrev l : ℕ
  l = length b

  -- The records, their count at place i after n tasks
  -- -------------------------------------------------
  module _ (σ : Setting) (τs : List Task) (n : ℕ) where
    abbrev i : ℕ
    i = records_place n

    abbrev end : ℕ
    end = size_of n (num b i)

    abbrev Records : Result Head (ℕ × ℕ) → Type 0
    Records o = o ≡ opened_of (read_records b σ τs i)

    pub records_uncounted : l < i + 4 → Records (Err (1, 0))
    unfolding read_records
    records_uncounted h = above 1 (i + 4) l _ h

    pub records_many : (i + 4 ≤ l) × (most_records < num b i) → Records (Err (7, 0))
    unfolding read_records
    records_many (h, m) = upto 1 (i + 4) l _ h (above 7 (num b i) most_records _ m)

    few_records : {o : Result Head (ℕ × ℕ)} (r : Read) → (i + 4 ≤ l) × (num b i ≤ most_records) → o ≡ opened_of r
        → o ≡ opened_of (gate 1 (leb (i + 4) l) (gate 7 (leb (num b i) most_records) r))
    few_records r (h, m) q = upto 1 (i + 4) l _ h (upto 7 (num b i) most_records r m q)

    pub records_cut : (i + 4 ≤ l) × (num b i ≤ most_records) × (l < end) → Records (Err (1, 0))
    unfolding read_records
    records_cut (h, m, k) = few_records _ (h, m) (above 1 end l _ k)

    pub records_followed : (num b i ≤ most_records) × (end < l) → Records (Err (8, 0))
    unfolding read_records
    records_followed (m, k) = few_records _ (omega arith, m) (upto 1 end l _ (omega arith) (above 8 l end _ k))

    -- m and k are what the count and the place of the first record were read as
    pub records_fine : {m k : ℕ} → length τs ≡ n → (m ≤ most_records) × (m ≡ num b i) × (k ≡ i + 4) × (end ≡ l)
        → Records (Ok (record { setting = σ; tasks = n; tasks_at = tasks_place + 4; records = m; records_at = k }))
    unfolding read_records run_at opened_of
    records_fine {m} {k} L (few, M, K, e) =
        let q = M ∙ sym (length-entries (record_at b) record_size (i + 4) (num b i)) in
        let p : k ≡ records_place (length τs) + 4 + record_size * 0 = omega arith in
        few_records _ (omega arith, omega arith)
        (upto 1 end l _ (omega arith)
        (upto 8 l end _ (omega arith)
        (λ κ. Ok (record { setting = σ; tasks = sym L κ; tasks_at = tasks_place + 4; records = q κ; records_at = p κ }))))

  -- The tasks, n of them by their count
  -- -----------------------------------
  module _ (σ : Setting) where
    abbrev Tasks : Result Head (ℕ × ℕ) → Type 0
    Tasks o = o ≡ opened_of (read_tasks b σ)

    pub tasks_uncounted : l < tasks_place + 4 → Tasks (Err (1, 0))
    unfolding read_tasks
    tasks_uncounted h = above 1 (tasks_place + 4) l _ h

    abbrev n : ℕ
    n = num b tasks_place

    abbrev Counted : Type 0
    Counted = (1 ≤ n) × (n ≤ most_tasks)

    counted : {o : Result Head (ℕ × ℕ)} (r : Read) → tasks_place + 4 ≤ l → Counted → o ≡ opened_of r → o ≡ opened_of (gate 1 (leb (tasks_place + 4) l) (gate 4 (within 1 most_tasks n) r))
    counted r h c q = upto 1 (tasks_place + 4) l _ h (pass 4 _ r (says_true (says_within 1 most_tasks n) c) q)

    pub tasks_miscounted : tasks_place + 4 ≤ l → ¬ Counted → Tasks (Err (4, 0))
    unfolding read_tasks
    tasks_miscounted h c = upto 1 (tasks_place + 4) l _ h (shut 4 _ _ (says_false (says_within 1 most_tasks n) c))

    pub tasks_cut : (tasks_place + 4 ≤ l) × Counted × (l < records_place n) → Tasks (Err (1, 0))
    unfolding read_tasks
    tasks_cut (h, c, k) = counted _ h c (above 1 (records_place n) l _ k)

    -- m is what the count was read as
    module _ {m : ℕ} (h : Counted × (records_place n ≤ l)) (z : m ≡ n) where
      abbrev τs : List Task
      τs = tasks_in b m

      tasks_there : {o : Result Head (ℕ × ℕ)} → o ≡ opened_of (gate_task (bad_task τs) (gate 6 (leb (total_jobs τs σ.horizon) most_jobs) (read_records b σ τs (records_place m)))) → Tasks o
      unfolding read_tasks
      tasks_there q = counted _ (omega arith) h.0 (upto 1 (records_place n) l _ h.1 (rw (← z) q))

      pub tasks_out : {k : ℕ} → bad_task τs ≡ Some k → Tasks (Err (5, k))
      unfolding gate_task opened_of
      tasks_out e = tasks_there (rw e)

      -- x is how many jobs were counted
      tasks_in_lem : {x : ℕ} {o : Result Head (ℕ × ℕ)} → (bad_task τs ≡ None) × (x ≡ total_jobs τs σ.horizon)
          → o ≡ opened_of (gate 6 (leb x most_jobs) (read_records b σ τs (records_place m))) → Tasks o
      unfolding gate_task
      tasks_in_lem (e, j) q = tasks_there (rw (e, ← j) q)

      pub jobs_many : {x : ℕ} → (bad_task τs ≡ None) × (x ≡ total_jobs τs σ.horizon) → most_jobs < x → Tasks (Err (6, 0))
      jobs_many {x} j k = tasks_in_lem j (above 6 x most_jobs _ k)

      pub tasks_fine : {x : ℕ} {o : Result Head (ℕ × ℕ)} → (bad_task τs ≡ None) × (x ≡ total_jobs τs σ.horizon) → x ≤ most_jobs → Records σ τs m o → Tasks o
      tasks_fine {x} j k q = tasks_in_lem j (upto 6 x most_jobs _ k q)

  -- The setting
  -- -----------
  abbrev File : Result Head (ℕ × ℕ) → Type 0
  File o = o ≡ opened_of (read b)

  pub setting_uncounted : l < 4 → File (Err (1, 0))
  unfolding read
  setting_uncounted h = above 1 4 l _ h

  pub setting_miscounted : 4 ≤ l → ¬ (num b 0 ≡ 2) → File (Err (2, 0))
  unfolding read
  setting_miscounted h e = upto 1 4 l _ h (shut 2 _ _ (ne_eqb (num b 0) 2 e))

  pub setting_cut : (4 ≤ l) × (num b 0 ≡ 2) × (l < tasks_place) → File (Err (1, 0))
  unfolding read
  setting_cut (h, e, k) = upto 1 4 l _ h (pass 2 _ _ (eq-eqb (num b 0) 2 e) (above 1 tasks_place l _ k))

  module _ (h : (num b 0 ≡ 2) × (tasks_place ≤ l)) where
    whole_setting : {o : Result Head (ℕ × ℕ)} (r : Read) → o ≡ opened_of r → o ≡ opened_of (gate 1 (leb 4 l) (gate 2 (eqb (num b 0) 2) (gate 1 (leb tasks_place l) r)))
    whole_setting r q = upto 1 4 l _ (omega arith) (pass 2 _ _ (eq-eqb (num b 0) 2 h.0) (upto 1 tasks_place l r h.1 q))

    module _ {σ : Setting} (s : σ ≡ setting_at b 4) where
      pub setting_out : not (setting_in_range σ) ≡ true → File (Err (3, 0))
      unfolding read
      setting_out e = rw (← s) (whole_setting _ (shut 3 _ _ (not-true (setting_in_range σ) e)))

      pub setting_fine : {o : Result Head (ℕ × ℕ)} → not (setting_in_range σ) ≡ false → Tasks σ o → File o
      unfolding read
      setting_fine e q = rw (← s) (whole_setting _ (pass 3 _ _ (not-false (setting_in_range σ) e) q))
