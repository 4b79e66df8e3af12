-- The carry comes to its end: every job has begun, by an instant that four bytes hold. Assumes nothing.
use Prim.Native.Nat.{ℕ, zero, ◌+◌, ◌≤◌, ◌<◌}
use mathlib.Core.Path.{◌≡◌, ◌∙◌}
use mathlib.Core.List.{List}
use native.Mathlib.Omega.{arith}
use native.Mathlib.Decide.{dec_lt}
use lib.ListN.{length, get_or-eq_default}
use Rattle.model.specs.declared.task.Task.{Task}
use Rattle.model.specs.Model.{Run, IsRecord, WithinLimits, TaskInRange, rec, task, task_of, no_task, most_horizon, most_time, most_jobs, total_jobs}
use Rattle.model.specs.Rules.{rule1, rule2, rule4, Obeys}
use Rattle.model.specs.Carry.{opening, carried}
use Rattle.model.specs.Compute.Jumps.{waiting, carry_by_starts}
use Rattle.model.proofs.Jobs.{Good}
use Rattle.carrytheory.proofs.Readiness.{Below}
use Rattle.carrytheory.proofs.Recorded.{record_few, record_exists}
use Rattle.carrytheory.proofs.Waiting.{waiting_size}
use Rattle.carrytheory.proofs.ByStarts.{carried_by_starts}
use Rattle.carrytheory.proofs.Begin.{Able, Going, latest_end, going_first, going_all, going_done}
use Rattle.carrytheory.proofs.AtH.{Origin, kept, old, new, origin, job_exists, opening_jobs, inv₀}

-- what holds of each task in its ranges and of no task holds of the task of every record
every_task : (τs : List Task) → ((i : ℕ) → i < length τs → TaskInRange (task τs i)) → (Q : Task → Type 0) → Q no_task
    → ((τ : Task) → TaskInRange τ → Q τ) → (i : ℕ) → Q (task τs i)
every_task τs f Q z g i = go (dec_lt i (length τs))
  where
    go : Dec (i < length τs) → Q (task τs i)
    go (yes h) = g _ (f i h)
    go (no h) = rw (get_or-eq_default τs no_task {n = i} (omega (arith, h))) z

module _ (ρ : Run) (L : WithinLimits ρ) where
  pub good_tasks : Good ρ.tasks
  good_tasks i h = (L.tasks i h).period.0

  able : Able ρ.setting.cores ρ.tasks most_time
  able =
      record {
        cores = L.setting.cores.0;
        fit = every_task ρ.tasks L.tasks (λ τ. τ.least ≤ τ.greatest) (omega arith) (λ τ x. x.times.1);
        most = every_task ρ.tasks L.tasks (λ τ. τ.greatest ≤ most_time) (omega arith) (λ τ x. x.times.2);
      }

  module _ (H' : ℕ) (O : Obeys ρ) (longer : ρ.setting.horizon ≤ H') (most : H' ≤ most_horizon) (few : total_jobs ρ.tasks H' ≤ most_jobs) where
    abbrev σ₀ : Run
    σ₀ = opening ρ H'

    abbrev H : ℕ
    H = ρ.setting.horizon

    -- releases are below H' + J, and what has begun before H ends below H + W
    below_from : (k : ℕ) → IsRecord σ₀ k → Origin ρ H' O good_tasks longer k
        → ((rec σ₀ k).release ≤ most_horizon + most_time) × ((rec σ₀ k).end ≤ most_horizon + most_time)
    below_from k h (kept p g l e) =
        let (r, x) = record_exists ρ (O rule1) good_tasks p g in
        let T = L.tasks (rec ρ p).task r in
        let a = O rule2 p g in
        let b = O rule4 p g in
        rw e (omega (arith, T), omega (arith, T))
    below_from k h (old p g l e) =
        let (r, x) = record_exists ρ (O rule1) good_tasks p g in
        let T = L.tasks (rec ρ p).task r in
        let a = O rule2 p g in
        rw e (omega (arith, T), omega arith)
    below_from k h (new q l e) =
        let x = rw e at (job_exists ρ good_tasks H' k h).1 in
        rw e (omega arith, omega arith)

    pub below₀ : Below (most_horizon + most_time) (opening ρ H')
    below₀ k h = below_from k h (origin ρ H' O good_tasks longer k h)

    lasting₀ : (k : ℕ) → IsRecord σ₀ k → 1 ≤ (task_of σ₀ k).greatest
    unfolding opening
    lasting₀ k h = let T = L.tasks (rec σ₀ k).task (job_exists ρ good_tasks H' k h).0 in omega (arith, T.times)

    few_wait : waiting σ₀ ≤ most_jobs
    unfolding opening
    few_wait = omega (arith, waiting_size σ₀, record_few σ₀ (opening_jobs ρ H'))

    -- the carry at its start, with no job begun that has not begun before H
    pub going₀ : Going σ₀ H most_time (waiting σ₀) H σ₀
    unfolding opening
    going₀ =
        going_first σ₀ H most_time latest_end (inv₀ ρ H' O good_tasks longer) able lasting₀ (most_horizon + most_time) (omega arith) below₀
        (omega (arith, few_wait)) (omega arith)

    -- and at its end
    pub done : (v : ℕ) × Going σ₀ H most_time zero v (carried ρ H')
    unfolding carry_by_starts
    done =
        let (v, σ, G) = going_all σ₀ H most_time (waiting σ₀) H σ₀ going₀ in
        let e : carried ρ H' ≡ σ = carried_by_starts ρ H' ∙ (going_done σ₀ H most_time v σ G).1 in
        (v, rw e G)
