-- A run that is written is read back. Assumes nothing.
use Prim.Native.Nat.{ℕ, zero, suc, ◌+◌, ◌*◌, ◌/◌, ◌%◌, ◌≤◌, ◌<◌}
use mathlib.Core.Path.{◌≡◌, refl, sym, ◌∙◌, ap}
use mathlib.Core.Bool.{Bool, true}
use mathlib.Core.List.{List, [], ◌∷◌, ◌++◌, append-nil, append_assoc}
use native.Mathlib.Omega.{arith}
use native.Mathlib.Nat.{suc-add, div-div-eq-div-mul, div-lt_iff_lt-mul, mod-eq_of_lt}
use lib.ListN.{length, get_or, drop, length-append, get_or-append}
use lib.Seq.{get_or-drop, drop-drop, drop-append_seam}
use Rattle.base.proofs.Test.{says_leb, says_eqb, says_true}
use Rattle.model.specs.declared.task.Task.{Task}
use Rattle.model.specs.declared.record.Record.{Record}
use Rattle.model.specs.Model.{Run, IsRecord, WithinLimits, TaskInRange, most_tasks, most_jobs, most_records, total_jobs, task, no_task, no_record, rec}
use Rattle.model.specs.File.{num, bytes4, bytes_of, task_numbers, record_numbers, FourBytes, RecordFits, joined, bytes, task_at, record_at, setting_at, entries, Read, whole, gate, run_at, read_records, read_tasks, read, tasks_place, records_place, has, task_size, record_size, size_of}
use Rattle.model.proofs.Joined.{length-joined}
use Rattle.model.proofs.Limits.{says_within, says_setting, tasks_fine}
use Rattle.model.proofs.Reading.{gate_whole, gate_task_whole}

-- Numbers of four bytes.
-- ----------------------

-- a record, so that the list can be inferred
pub record Fits (vs : List ℕ) : Type 0 where
  pub at : (k : ℕ) → FourBytes (get_or vs k 0)

pub fits_nil : Fits []
fits_nil = record { at = λ k. omega arith }

pub fits_cons : {v : ℕ} {vs : List ℕ} → FourBytes v → Fits vs → Fits (v ∷ vs)
fits_cons {v} {vs} h F = record { at = go }
  where
    go : (k : ℕ) → FourBytes (get_or (v ∷ vs) k 0)
    go zero = h
    go (suc k) = F.at k

fits_tail : {v : ℕ} {vs : List ℕ} → Fits (v ∷ vs) → Fits vs
fits_tail F = record { at = λ k. F.at (suc k) }

fits_append : (us : List ℕ) {vs : List ℕ} → Fits us → Fits vs → Fits (us ++ vs)
fits_append [] F G = G
fits_append (u ∷ us) F G = fits_cons (F.at 0) (fits_append us (fits_tail F) G)

fits_joined : {A : Type 0} (f : A → List ℕ) (xs : List A) (d : A) → ((k : ℕ) → k < length xs → Fits (f (get_or xs k d))) → Fits (joined f xs)
fits_joined f [] d F = fits_nil
fits_joined f (x ∷ xs) d F = fits_append (f x) (F 0 (omega arith)) (fits_joined f xs d (λ k h. F (suc k) (omega arith)))

fits_task : (τ : Task) → TaskInRange τ → Fits (task_numbers τ)
fits_task τ h =
    fits_cons (omega arith) (fits_cons (omega arith) (fits_cons (omega arith) (fits_cons (omega arith) (fits_cons (omega arith) fits_nil))))

-- Where the numbers stand.
-- ------------------------
pub digits : (v : ℕ) → FourBytes v → v % 256 + 256 * (v / 256 % 256) + 65536 * (v / 65536 % 256) + 16777216 * (v / 16777216 % 256) ≡ v
digits v h =
    let a : v / 256 / 256 ≡ v / 65536 = div-div-eq-div-mul v 256 256 in
    let b : v / 65536 / 256 ≡ v / 16777216 = div-div-eq-div-mul v 65536 256 in
    let c : v / 16777216 < 256 = (div-lt_iff_lt-mul {k = 16777216} {x = v} {y = 256} (omega arith)).1 h in
    let d : v / 16777216 % 256 ≡ v / 16777216 = mod-eq_of_lt c in
    omega arith

num_shift : (v : ℕ) (l : List ℕ) (i : ℕ) → num (bytes4 v ++ l) (suc (suc (suc (suc i)))) ≡ num l i
num_shift v l i = simp suc-add

pub num_at : (vs : List ℕ) → Fits vs → (k : ℕ) → num (bytes_of vs) (4 * k) ≡ get_or vs k 0
num_at [] F k = refl
num_at (v ∷ vs) F zero = digits v (F.at 0)
num_at (v ∷ vs) F (suc k) =
    let e : 4 * suc k ≡ suc (suc (suc (suc (4 * k)))) = omega arith in
    ap (num (bytes_of (v ∷ vs))) e ∙ num_shift v (bytes_of vs) (4 * k) ∙ num_at vs (fits_tail F) k

pub length_bytes_of : (vs : List ℕ) → length (bytes_of vs) ≡ 4 * length vs
length_bytes_of [] = refl
length_bytes_of (v ∷ vs) = let e = length_bytes_of vs in omega arith

-- Entries of w numbers each: what is written of one, and how it is read.
-- ----------------------------------------------------------------------
abbrev StandsAt : {A : Type 0} → (A → List ℕ) → ℕ → List ℕ → ℕ → A → Type 0
StandsAt f w b i x = (j k : ℕ) → k ≡ i + 4 * j → j < w → num b k ≡ get_or (f x) j 0

module _ {A : Type 0} (f : A → List ℕ) (w : ℕ) (even : (x : A) → length (f x) ≡ w) where
  module _ (vs : List ℕ) (F : Fits vs) where
    stands : (x : A) (rest : List ℕ) (p i : ℕ) → i ≡ 4 * p → drop p vs ≡ f x ++ rest → StandsAt f w (bytes_of vs) i x
    stands x rest p i e q j k c l =
        let z : k ≡ 4 * (p + j) = omega arith in
        ap (num (bytes_of vs)) z
        ∙ num_at vs F (p + j)
        ∙ sym (get_or-drop p vs j 0)
        ∙ ap (λ l. get_or l j 0) q
        ∙ get_or-append (f x) rest 0 j (rw (even x) l)

    drop-entry : (x : A) (rest : List ℕ) (p : ℕ) → drop p vs ≡ f x ++ rest → drop (p + w) vs ≡ rest
    drop-entry x rest p q = sym (drop-drop w p vs) ∙ ap (drop w) q ∙ rw (← even x) (drop-append_seam (f x) rest)

    -- entries that stand from number p on are read from byte i on
    entries_read : (entry : List ℕ → ℕ → A) → ((b : List ℕ) (i : ℕ) (x : A) → StandsAt f w b i x → entry b i ≡ x) → (xs : List A) (rest : List ℕ) (p i : ℕ)
        → i ≡ 4 * p → drop p vs ≡ joined f xs ++ rest → entries (entry (bytes_of vs)) (4 * w) i (length xs) ≡ xs
    entries_read entry is [] rest p i e q = refl
    entries_read entry is (x ∷ xs) rest p i e q =
        let q' = q ∙ append_assoc (f x) (joined f xs) rest in
        let u = is (bytes_of vs) i x (stands x _ p i e q') in
        let v = entries_read entry is xs rest (p + w) (i + 4 * w) (omega arith) (drop-entry x _ p q') in
        λ κ. u κ ∷ v κ

task_is : (b : List ℕ) (i : ℕ) (τ : Task) → StandsAt task_numbers 5 b i τ → task_at b i ≡ τ
task_is b i τ S = λ κ.
    record {
      period = S 0 i (omega arith) (omega arith) κ;
      least = S 1 (i + 4) (omega arith) (omega arith) κ;
      greatest = S 2 (i + 8) (omega arith) (omega arith) κ;
      offset = S 3 (i + 12) (omega arith) (omega arith) κ;
      jitter = S 4 (i + 16) (omega arith) (omega arith) κ;
    }

record_is : (b : List ℕ) (i : ℕ) (x : Record) → StandsAt record_numbers 6 b i x → record_at b i ≡ x
record_is b i x S = λ κ.
    record {
      task = S 0 i (omega arith) (omega arith) κ;
      job = S 1 (i + 4) (omega arith) (omega arith) κ;
      release = S 2 (i + 8) (omega arith) (omega arith) κ;
      start = S 3 (i + 12) (omega arith) (omega arith) κ;
      end = S 4 (i + 16) (omega arith) (omega arith) κ;
      core = S 5 (i + 20) (omega arith) (omega arith) κ;
    }

-- The file of a run.
-- ------------------
module _ (ρ : Run) where
  abbrev n : ℕ
  n = length ρ.tasks

  abbrev m : ℕ
  m = length ρ.records

  -- from the records' count on
  abbrev later : List ℕ
  later = m ∷ joined record_numbers ρ.records

  numbers : List ℕ
  numbers = 2 ∷ ρ.setting.cores ∷ ρ.setting.horizon ∷ n ∷ joined task_numbers ρ.tasks ++ later

  abbrev b : List ℕ
  b = bytes_of numbers

  bytes_are : bytes ρ ≡ b
  unfolding bytes numbers
  bytes_are = refl

  long : length b ≡ size_of n m
  unfolding numbers
  long =
      let t = length-joined task_numbers 5 (λ τ. refl) ρ.tasks in
      let r = length-joined record_numbers 6 (λ x. refl) ρ.records in
      omega (arith, length_bytes_of numbers, length-append (joined task_numbers ρ.tasks) later)

  pub length-bytes : length (bytes ρ) ≡ size_of (length ρ.tasks) (length ρ.records)
  length-bytes = ap length bytes_are ∙ long

  drop_tasks : drop (4 + 5 * n) numbers ≡ later
  unfolding numbers
  drop_tasks =
      sym (drop-drop (5 * n) 4 numbers)
      ∙ rw (← length-joined task_numbers 5 (λ τ. refl) ρ.tasks) (drop-append_seam (joined task_numbers ρ.tasks) later)

  drop-count : drop (4 + 5 * n + 1) numbers ≡ joined record_numbers ρ.records ++ []
  drop-count = sym (drop-drop 1 (4 + 5 * n) numbers) ∙ ap (drop 1) drop_tasks ∙ sym (append-nil (joined record_numbers ρ.records))

  has_to : (k : ℕ) → k ≤ size_of n m → has b k ≡ true
  has_to k h = let l = long in says_true (says_leb k (length b)) (omega arith)

  opens : (ν : ℕ) (t : Bool) (r : Read) → t ≡ true → r ≡ whole ρ → gate ν t r ≡ whole ρ
  opens ν t r e q = (gate_whole ν t r ρ).1 (e, q)

  module _ (L : WithinLimits ρ) (R : (k : ℕ) → IsRecord ρ k → RecordFits (rec ρ k)) where
    fit : Fits numbers
    unfolding numbers
    fit =
        let tasks = fits_joined task_numbers ρ.tasks no_task (λ i h. fits_task (task ρ.tasks i) (L.tasks i h)) in
        let records = fits_joined record_numbers ρ.records no_record (λ k h. record { at = R k h }) in
        fits_cons (omega arith)
        (fits_cons (omega (arith, L.setting))
        (fits_cons (omega (arith, L.setting))
        (fits_cons (omega (arith, L.task_total))
        (fits_append (joined task_numbers ρ.tasks) tasks (fits_cons (omega (arith, L.record_total)) records)))))

    setting_back : setting_at b 4 ≡ ρ.setting
    unfolding numbers
    setting_back = λ κ. record { cores = num_at numbers fit 1 κ; horizon = num_at numbers fit 2 κ }

    task_count_back : num b tasks_place ≡ n
    unfolding numbers
    task_count_back = num_at numbers fit 3

    tasks_back : entries (task_at b) task_size (tasks_place + 4) n ≡ ρ.tasks
    unfolding numbers
    tasks_back = entries_read task_numbers 5 (λ τ. refl) numbers fit task_at task_is ρ.tasks later 4 16 refl refl

    record_count_back : num b (records_place n) ≡ m
    record_count_back =
        let e : records_place n ≡ 4 * (4 + 5 * n + 0) = omega arith in
        ap (num b) e ∙ num_at numbers fit (4 + 5 * n + 0) ∙ sym (get_or-drop (4 + 5 * n) numbers 0 0) ∙ ap (λ l. get_or l 0 0) drop_tasks

    records_back : entries (record_at b) record_size (records_place n + 4) m ≡ ρ.records
    records_back =
        entries_read record_numbers 6 (λ x. refl) numbers fit record_at record_is ρ.records [] (4 + 5 * n + 1) (records_place n + 4) (omega arith) drop-count

    records_read : read_records b ρ.setting ρ.tasks (records_place n) ≡ whole ρ
    unfolding read_records run_at
    records_read =
        let end : ℕ = records_place n + 4 + record_size * m in
        let l = long in
        rw record_count_back
        (opens 1 _ _ (has_to (records_place n + 4) (omega arith))
        (opens 7 _ _ (says_true (says_leb m most_records) L.record_total)
        (opens 1 _ _ (has_to end (omega arith))
        (opens 8 _ _ (says_true (says_leb (length b) end) (omega arith))
        (ap (λ xs. whole (record { setting = ρ.setting; tasks = ρ.tasks; records = xs })) records_back)))))

    tasks_read : read_tasks b ρ.setting ≡ whole ρ
    unfolding read_tasks
    tasks_read =
        let few = says_true (says_leb (total_jobs ρ.tasks ρ.setting.horizon) most_jobs) L.job_total in
        rw (task_count_back, tasks_back)
        (opens 1 _ _ (has_to (tasks_place + 4) (omega arith))
        (opens 4 _ _ (says_true (says_within 1 most_tasks n) L.task_total)
        (opens 1 _ _ (has_to (records_place n) (omega arith))
        ((gate_task_whole _ _ ρ).1 ((tasks_fine ρ.tasks).1 L.tasks, opens 6 _ _ few records_read)))))

    pub read_back : read (bytes ρ) ≡ whole ρ
    unfolding read numbers
    read_back =
        rw (bytes_are, setting_back)
        (opens 1 _ _ (has_to 4 (omega arith))
        (opens 2 _ _ (says_true (says_eqb (num b 0) 2) (num_at numbers fit 0))
        (opens 1 _ _ (has_to tasks_place (omega arith))
        (opens 3 _ _ (says_true (says_setting ρ.setting) L.setting) tasks_read))))
