-- A later horizon has no fewer jobs. Assumes nothing.
use Prim.Native.Nat.{ℕ, suc, ◌≤◌}
use mathlib.Core.List.{List, [], ◌∷◌}
use native.Mathlib.Omega.{arith}
use native.Mathlib.Decide.{dec_le}
use Rattle.model.specs.declared.task.Task.{Task}
use Rattle.model.specs.Model.{job_count, total_jobs}
use Rattle.model.proofs.Jobs.{Good, job_exists}

-- the job after the last at H' would exist at H and not at H'
more_of_one : (τ : Task) (H H' : ℕ) → 1 ≤ τ.period → H ≤ H' → job_count τ H ≤ job_count τ H'
more_of_one τ H H' p l = go (dec_le (job_count τ H) (job_count τ H'))
  where
    go : Dec (job_count τ H ≤ job_count τ H') → job_count τ H ≤ job_count τ H'
    go (yes h) = h
    go (no h) =
        let j : ℕ = job_count τ H' in
        let x = (job_exists τ H j p).0 (omega (arith, h)) in
        let y = (job_exists τ H' j p).1 (omega arith) in
        absurd (omega arith)

pub more_jobs : (τs : List Task) (H H' : ℕ) → Good τs → H ≤ H' → total_jobs τs H ≤ total_jobs τs H'
more_jobs [] H H' g l = omega arith
more_jobs (τ ∷ τs) H H' g l =
    let a = more_of_one τ H H' (g 0 (omega arith)) l in
    let b = more_jobs τs H H' (λ i h. g (suc i) (omega arith)) l in
    omega arith
