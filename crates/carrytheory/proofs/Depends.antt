-- What the deadline, the rank and the existing jobs depend on. Assumes nothing.
use Prim.Native.Nat.{ℕ, suc, ◌<◌}
use mathlib.Core.Path.{◌≡◌, sym, subst, ◌∙◌, ap}
use mathlib.Core.Logic.{◌↔◌}
use mathlib.Core.List.{List}
use lib.ListN.{length, get_or}
use Rattle.model.specs.Model.{Run, Job, Exists, rec, task, job_of, jobs, due, rank, existing}
use Rattle.model.specs.Rules.{jobs_recorded}
use Rattle.model.proofs.Jobs.{Stands, Lower, Good, existing_jobs, before_stands, rising, distinct, exists_iff}

-- the same job of the same tasks, released at the same instant
module _ (ρ σ : Run) (a b : ℕ) (tasks : ρ.tasks ≡ σ.tasks) (job : job_of (rec ρ a) ≡ job_of (rec σ b)) (release : (rec ρ a).release ≡ (rec σ b).release) where
  pub same_due : due ρ a ≡ due σ b
  unfolding due
  same_due =
      let t : (rec ρ a).task ≡ (rec σ b).task = ap (λ q. q.0) job in
      let j : (rec ρ a).job ≡ (rec σ b).job = ap (λ q. q.1) job in
      cc

  pub same_rank : rank ρ a ≡ rank σ b
  unfolding rank
  same_rank = same_due

-- The existing jobs of a run
-- --------------------------
module _ (ρ : Run) (H : ℕ) where
  -- they rise by task, then job, so that none stands twice
  pub existing_rises : (k l : ℕ) → k < l → l < length (existing ρ H) → Lower (get_or (existing ρ H) k (0, 0)) (get_or (existing ρ H) l (0, 0))
  existing_rises = subst Rises (sym (existing_jobs ρ H)) (rising ρ.tasks H)
    where
      Rises : List Job → Type 0
      Rises qs = (k l : ℕ) → k < l → l < length qs → Lower (get_or qs k (0, 0)) (get_or qs l (0, 0))

  pub existing_distinct : (k l : ℕ) → k < length (existing ρ H) → l < length (existing ρ H)
      → get_or (existing ρ H) k (0, 0) ≡ get_or (existing ρ H) l (0, 0) → k ≡ l
  existing_distinct = subst Distinct (sym (existing_jobs ρ H)) (distinct ρ.tasks H)
    where
      Distinct : List Job → Type 0
      Distinct qs = (k l : ℕ) → k < length qs → l < length qs → get_or qs k (0, 0) ≡ get_or qs l (0, 0) → k ≡ l

  -- with a job that is not its task's first stands the one before it
  pub existing_before : (i j : ℕ) → Stands (existing ρ H) (i, suc j) → Stands (existing ρ H) (i, j)
  existing_before = subst Follows (sym (existing_jobs ρ H)) (before_stands ρ.tasks H)
    where
      Follows : List Job → Type 0
      Follows qs = (i j : ℕ) → Stands qs (i, suc j) → Stands qs (i, j)

  -- a job stands among them exactly if its task is there and it exists
  pub existing_iff : Good ρ.tasks → (q : Job) → Stands (existing ρ H) q ↔ ((q.0 < length ρ.tasks) × Exists (task ρ.tasks q.0) H q.1)
  existing_iff good q =
      subst (λ qs. Stands qs q ↔ ((q.0 < length ρ.tasks) × Exists (task ρ.tasks q.0) H q.1)) (sym (existing_jobs ρ H))
      (exists_iff ρ.tasks H good q)

-- of two runs of the same tasks whose records are of the same jobs, and of a run and one whose records are of just its existing jobs
module _ (ρ σ : Run) (H : ℕ) (tasks : ρ.tasks ≡ σ.tasks) where
  same_jobs : existing ρ H ≡ existing σ H
  same_jobs = existing_jobs ρ H ∙ ap (λ τs. jobs τs H) tasks ∙ sym (existing_jobs σ H)

  pub existing_same : jobs_recorded ρ ≡ jobs_recorded σ → existing ρ H ≡ existing σ H
  existing_same e = same_jobs

  pub existing_again : jobs_recorded σ ≡ existing ρ H → existing ρ H ≡ existing σ H
  existing_again e = same_jobs
