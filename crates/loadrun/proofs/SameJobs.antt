-- The recorded jobs against those that exist, task after task: the first place at which they differ. Assumes nothing.
use Rattle.std.specs.Prelude.{None, Option, Some, option_map, slice_get}
use Prim.Native.Nat.{ℕ, ◌+◌, ◌-◌, ◌≤◌, ◌<◌, max}
use mathlib.Core.Path.{◌≡◌, refl, sym, ◌∙◌, ap}
use mathlib.Core.Bool.{true, false}
use mathlib.Core.List.{List}
use native.Mathlib.Decide.{dec_lt}
use native.Mathlib.Omega.{arith}
use borrow.Author.Tests.{lt-ltb}
use lib.Dec.{ltb}
use lib.ListN.{length, get_or, take, length-map, get_or-map}
use lib.Seq.{take-length}
use Rattle.std.specs.Bool.{then_some}
use Rattle.base.specs.Find.{first}
use Rattle.base.proofs.Arrays.{entry_there, entry_past}
use Rattle.base.proofs.Loop.{NoneTo, none_yet, first_hit, first_miss, hit_tells, miss_tells}
use Rattle.base.proofs.Test.{says_ltb, says_false}
use Rattle.model.specs.Compute.Places.{find, one, differ}
use Rattle.model.specs.Model.{Run, most_jobs, WithinLimits, IsRecord, rec, task, no_record, job_of, job_count, jobs, total_jobs, existing}
use Rattle.model.specs.Rules.{rule1, jobs_recorded}
use Rattle.model.proofs.Jobs.{jobs_before, before_on, before_within, job_at, length-jobs, existing_jobs, existing_total}
use Rattle.table.specs.Table.{ForEach, number_at}
use Rattle.loadrun.specs.OtherJob.{other_job}

-- What stands at a place of the two lists
-- ---------------------------------------
module _ (ρ : Run) where
  -- how many jobs the tasks before task i have, and task i
  abbrev before : ℕ → ℕ
  before i = jobs_before ρ.tasks ρ.setting.horizon i

  abbrev jobs_of : ℕ → ℕ
  jobs_of i = job_count (task ρ.tasks i) ρ.setting.horizon

  task_within : (i : ℕ) → i < length ρ.tasks → before i + jobs_of i ≤ total_jobs ρ.tasks ρ.setting.horizon
  task_within i h = omega (arith, before_on ρ.tasks ρ.setting.horizon i h, before_within ρ.tasks ρ.setting.horizon (i + 1))

  recorded_there : (k : ℕ) → IsRecord ρ k → slice_get (jobs_recorded ρ) k ≡ Some (job_of (rec ρ k))
  recorded_there k h =
      entry_there (jobs_recorded ρ) k (job_of no_record) (rw (length-map ρ.records job_of) h) ∙ ap Some (get_or-map job_of ρ.records k no_record)

  recorded_past : (k : ℕ) → length ρ.records ≤ k → slice_get (jobs_recorded ρ) k ≡ None
  recorded_past k h = entry_past (jobs_recorded ρ) k (rw (length-map ρ.records job_of) h)

  exists_there : (i k : ℕ) → i < length ρ.tasks → before i ≤ k → k < before i + jobs_of i
      → slice_get (existing ρ ρ.setting.horizon) k ≡ Some (i, k - before i)
  exists_there i k h l u =
      let τs = ρ.tasks in
      let H = ρ.setting.horizon in
      let e : k ≡ before i + (k - before i) = omega arith in
      ap (λ qs. slice_get qs k) (existing_jobs ρ H)
      ∙ entry_there (jobs τs H) k (0, 0) (omega (arith, length-jobs τs H, task_within i h))
      ∙ ap Some (ap (λ m. get_or (jobs τs H) m (0, 0)) e ∙ job_at τs H i (k - before i) h (omega arith))

  -- the length of the longer list
  abbrev longer : ℕ
  longer = max (length (jobs_recorded ρ)) (length (existing ρ ρ.setting.horizon))

  differ_here : (k : ℕ) → k < longer → NoneTo (differ ρ) 0 k → differ ρ k ≡ true → Some (one k) ≡ find rule1 ρ
  unfolding find
  differ_here k h N e = ap (option_map one) (first_hit (differ ρ) 0 longer (omega arith) (omega arith) N e)

-- Task after task
-- ---------------

-- the records are the jobs of the tasks before task i, as far as these go
pub record SameTo (ρ : Run) (i at : ℕ) : Type 0 where
  pub reached : at ≡ before ρ i
  pub same : NoneTo (differ ρ) 0 at

pub same_none : (ρ : Run) → SameTo ρ 0 0
same_none ρ = record { reached = refl; same = none_yet (differ ρ) }

-- and task i is there with so many jobs, and the records' tasks and job numbers are two columns
pub record NextTask (ρ : Run) (is js : List ℕ) (i at count : ℕ) : Type 0 where
  pub to_here : SameTo ρ i at
  pub is_task : i < length ρ.tasks
  pub counted : count ≡ jobs_of ρ i
  pub tasks : ForEach ρ is (number_at ρ 0)
  pub numbers : ForEach ρ js (number_at ρ 1)

module _ {ρ : Run} {is js : List ℕ} {i at count : ℕ} (N : NextTask ρ is js i at count) where
  reached : at ≡ before ρ i
  reached = N.to_here.reached

  pub next_fits : WithinLimits ρ → at + count ≤ most_jobs
  next_fits W = omega (arith, reached, N.counted, task_within ρ i N.is_task, W.job_total)

  -- at the places of the task the test is that of rule 1
  other_is : (k : ℕ) → at ≤ k → k < at + count → other_job is js i at k ≡ differ ρ k
  unfolding other_job
  other_is k l u = go (dec_lt k (length ρ.records))
    where
      I : ForEach ρ is (number_at ρ 0)
      I = N.tasks

      there : slice_get (existing ρ ρ.setting.horizon) k ≡ Some (i, k - at)
      there =
          exists_there ρ i k N.is_task (omega (arith, reached)) (omega (arith, reached, N.counted))
          ∙ ap (λ a. Some (i, k - a)) (sym reached)

      go : Dec (IsRecord ρ k) → other_job is js i at k ≡ differ ρ k
      go (yes w) = rw (recorded_there ρ k w, there, lt-ltb k (length is) (rw I.long w), I.each k w, N.numbers.each k w)
      go (no w) = rw (recorded_past ρ k (omega (arith, w)), there, says_false (says_ltb k (length is)) (λ v. omega (arith, I.long)))

  -- so the lists are the same as far as the test does not find another job
  same_in : (k : ℕ) → k ≤ at + count → NoneTo (other_job is js i at) at k → NoneTo (differ ρ) 0 k
  same_in k l O = record { below = λ j u v. go j v (dec_lt j at) }
    where
      go : (j : ℕ) → j < k → Dec (j < at) → differ ρ j ≡ false
      go j v (yes w) = N.to_here.same.below j (omega arith) w
      go j v (no w) = sym (other_is j (omega (arith, w)) (omega arith)) ∙ O.below j (omega (arith, w)) v

  pub task_same : {r : Option ℕ} → r ≡ first (other_job is js i at) at count → r ≡ None → SameTo ρ (i + 1) (at + count)
  task_same q z =
      record {
        reached = omega (arith, reached, N.counted, before_on ρ.tasks ρ.setting.horizon i N.is_task);
        same = same_in (at + count) (omega arith) (miss_tells (other_job is js i at) at count (sym z ∙ q));
      }

  pub task_differs : {r : Option ℕ} {k : ℕ} → r ≡ first (other_job is js i at) at count → r ≡ Some k → Some (one k) ≡ find rule1 ρ
  task_differs {k = k} q z =
      let F = hit_tells (other_job is js i at) at count {k = k} (sym z ∙ q) in
      let w = task_within ρ i N.is_task in
      differ_here ρ k (omega (arith, reached, N.counted, existing_total ρ ρ.setting.horizon)) (same_in k (omega arith) F.before)
      (sym (other_is k F.reached F.within) ∙ F.here)

-- After the last task
-- -------------------
module _ {ρ : Run} {i at : ℕ} (S : SameTo ρ i at) (e : i ≡ length ρ.tasks) where
  all : at ≡ length (existing ρ ρ.setting.horizon)
  all =
      S.reached
      ∙ ap (λ τs. total_jobs τs ρ.setting.horizon) (ap (λ n. take n ρ.tasks) e ∙ take-length ρ.tasks)
      ∙ sym (existing_total ρ ρ.setting.horizon)

  records_left : at < length ρ.records → Some (one at) ≡ find rule1 ρ
  records_left h =
      differ_here ρ at (omega (arith, length-map ρ.records job_of)) S.same
      (rw (recorded_there ρ at h, entry_past (existing ρ ρ.setting.horizon) at (omega (arith, all))))

  none_left : length ρ.records ≤ at → None ≡ find rule1 ρ
  unfolding find
  none_left h = ap (option_map one) (first_miss (differ ρ) 0 (longer ρ) (omega (arith, all, length-map ρ.records job_of)) S.same)

  pub past_them : {n : ℕ} {r : Option ℕ} → n ≡ length ρ.records → r ≡ then_some (ltb at n) at → option_map one r ≡ find rule1 ρ
  past_them {n} {r} q w = go (dec_lt at n)
    where
      go : Dec (at < n) → option_map one r ≡ find rule1 ρ
      go (yes h) = rw (w, lt-ltb at n h) (records_left (omega (arith, q)))
      go (no h) = rw (w, says_false (says_ltb at n) h) (none_left (omega (arith, q, h)))
