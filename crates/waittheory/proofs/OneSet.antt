-- Two runs of one set that obey all rules: they have the same jobs, in the same order, and the greatest times of the one bound the waits of
-- the other. Assumes nothing.
use Prim.Native.Nat.{ℕ, ◌≤◌}
use mathlib.Core.Path.{◌≡◌, sym, ◌∙◌, ap}
use native.Mathlib.Omega.{arith}
use lib.ListN.{length, get_or}
use Rattle.model.specs.Model.{Run, IsRecord, rec, task, job_of, jobs, existing}
use Rattle.model.specs.Rules.{Obeys, Jobs, rule1, rule4, rule8}
use Rattle.carrytheory.proofs.Recorded.{record_count_lem, record_job}
use Rattle.waittheory.specs.WaitBound.{all_but, wait_times_N, others, greatest_of, greatest_times, OneSet}
use Rattle.waittheory.proofs.Sums.{total, total_but_mono}
use Rattle.waittheory.proofs.BoundedWait.{wait_bounded_by_times}

module _ (ρ ρ' : Run) (S : OneSet ρ ρ') (J : Jobs ρ) (J' : Jobs ρ') where
  same_existing : existing ρ ρ.setting.horizon ≡ existing ρ' ρ'.setting.horizon
  unfolding existing
  same_existing = λ κ. jobs (S.tasks κ) (S.setting κ).horizon

  pub same_count : length ρ.records ≡ length ρ'.records
  same_count = record_count_lem ρ J ∙ ap length same_existing ∙ sym (record_count_lem ρ' J')

  pub same_job_lem : (k : ℕ) → IsRecord ρ k → job_of (rec ρ k) ≡ job_of (rec ρ' k)
  same_job_lem k h =
      let l : IsRecord ρ' k = omega (arith, same_count) in
      record_job ρ J k h ∙ ap (λ l. get_or l k (0, 0)) same_existing ∙ sym (record_job ρ' J' k l)

  -- a job has the same greatest time in both, and so have all others
  same_greatest : (k : ℕ) → IsRecord ρ k → greatest_of ρ k ≡ greatest_of ρ' k
  same_greatest k h = λ κ. (task (S.tasks κ) (same_job_lem k h κ).0).greatest

  no_greater_times : (k : ℕ) → IsRecord ρ k → greatest_times ρ (others ρ k) ≤ greatest_times ρ' (others ρ' k)
  no_greater_times k h =
      let times : ℕ → ℕ = λ n. total (greatest_of ρ') (all_but n k) in
      let e : times (length ρ.records) ≡ times (length ρ'.records) = ap times same_count in
      omega (arith, total_but_mono (greatest_of ρ) (greatest_of ρ') (length ρ.records) k h (λ j l. omega (arith, same_greatest j l)))

-- The greatest times of all others are one number for both, ..
pub same_times : (ρ ρ' : Run) → OneSet ρ ρ' → Jobs ρ → Jobs ρ' → (k : ℕ) → IsRecord ρ k → greatest_times ρ (others ρ k) ≡ greatest_times ρ' (others ρ' k)
same_times ρ ρ' S J J' k h =
    let back : OneSet ρ' ρ = record { setting = sym S.setting; tasks = sym S.tasks } in
    let l : IsRecord ρ' k = omega (arith, same_count ρ ρ' S J J') in
    omega (arith, no_greater_times ρ ρ' S J J' k h, no_greater_times ρ' ρ back J' J k l)

-- .. which N times the wait of the job is at most, in the one as in the other.
pub bounded_by_the_set : (ρ ρ' : Run) → OneSet ρ ρ' → Obeys ρ → Obeys ρ' → (k : ℕ) → IsRecord ρ k
    → (job_of (rec ρ k) ≡ job_of (rec ρ' k)) × (wait_times_N ρ k ≤ greatest_times ρ' (others ρ' k))
bounded_by_the_set ρ ρ' S O O' k h = (
  same_job_lem ρ ρ' S (O rule1) (O' rule1) k h,
  omega (arith, wait_bounded_by_times ρ (O rule8) k h (O rule4), same_times ρ ρ' S (O rule1) (O' rule1) k h),
)
