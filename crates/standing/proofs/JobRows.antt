-- The jobs of a run that obeys rule 1, task by task, into the first columns of its table. Assumes nothing.
use Prim.Native.Nat.{ℕ, ◌+◌, ◌≤◌, ◌<◌}
use mathlib.Core.Path.{◌≡◌, refl, sym, ◌∙◌, ap}
use mathlib.Core.List.{List, [], ◌∷◌}
use native.Mathlib.Omega.{arith}
use lib.ListN.{length, get_or, take}
use Rattle.carrytheory.proofs.Recorded.{record_job, record_total}
use Rattle.model.specs.declared.task.Task.{Task}
use Rattle.model.specs.Model.{Run, Job, total_jobs, job_count, jobs, job_of, rec, task}
use Rattle.model.proofs.Jobs.{jobs_before, before_on, before_within, job_at, existing_jobs}
use Rattle.openfile.proofs.Leading.{leads_take}
use Rattle.table.specs.Table.{Sized, Rows, PutRow}
use Rattle.table.proofs.LentLaws.{sized_as, lent_none, rows_none, rows_with}
use Rattle.standing.specs.WhoseRows.{OfTask, OfTasks}

-- One task
-- --------

-- the first j of its jobs are there, in a table t that was t₀
pub record Tasked (i count : ℕ) (t₀ : List ℕ) (m at : ℕ) (t : List ℕ) (j : ℕ) : Type 0 where
  pub within : j ≤ count
  pub long : length t ≡ length t₀
  pub rows : (σ : Run) → OfTask σ i at count → Rows 0 2 at σ t₀ m → Rows 0 2 (at + j) σ t m

pub tasked_on : {i count : ℕ} {t₀ : List ℕ} {m at : ℕ} {t t' : List ℕ} {j : ℕ} → Tasked i count t₀ m at t j → j < count → at + count ≤ m
    → PutRow m (at + j) 0 (i ∷ j ∷ []) t t' → Tasked i count t₀ m at t' (j + 1)
tasked_on {i} {count} {t₀} {m} {at} {t} {t'} {j} T h l P =
    record {
      within = omega arith;
      long = P.long ∙ T.long;
      rows = λ σ O R.
          let e : at + (j + 1) ≡ at + j + 1 = omega arith in
          let q = O.each j h in
          rw e (rows_with (T.rows σ O R) 2 (omega arith) P (ap (λ (x : Job). x.0 ∷ x.1 ∷ []) (sym q)) refl);
    }

-- All tasks
-- ---------
module _ {l : List Task} {n H m : ℕ} {σ : Run} (J : OfTasks l n H m σ) where
  of_first : σ.tasks ≡ take n l
  of_first = leads_take J.tasks J.task_total

  of_total : total_jobs (take n l) H ≡ m
  of_total = sym (J.count ∙ record_total σ J.jobs ∙ (λ κ. total_jobs (of_first κ) (J.horizon κ)))

-- the jobs of the first i tasks are there, in a table t that was t₀
pub record Listing (l : List Task) (n H : ℕ) (t₀ : List ℕ) (m : ℕ) (t : List ℕ) (at i : ℕ) : Type 0 where
  pub long : length t ≡ length t₀
  pub sized : Sized t m
  pub total : total_jobs (take n l) H ≡ m
  pub place : at ≡ jobs_before (take n l) H i
  pub rows : (σ : Run) → OfTasks l n H m σ → Rows 0 2 at σ t m

pub listing_none : {l : List Task} {n H : ℕ} {t : List ℕ} {m : ℕ} {σ : Run} → Sized t m → OfTasks l n H m σ → Listing l n H t m t 0 0
listing_none S J =
    record {
      long = refl;
      sized = S;
      total = of_total J;
      place = refl;
      rows = λ ρ K. rows_none (lent_none K.limits K.count S.long) 2;
    }

module _ {l : List Task} {n H : ℕ} {t₀ : List ℕ} {m : ℕ} {t : List ℕ} {at i : ℕ} (L : Listing l n H t₀ m t at i) where
  abbrev τs : List Task
  τs = take n l

  module _ {c : ℕ} (h : i < length τs) (is-count : c ≡ job_count (task τs i) H) where
    next_place : at + c ≡ jobs_before τs H (i + 1)
    next_place = omega (arith, L.place, is-count, before_on τs H i h)

    -- there is room for the jobs of task i
    pub fitting : at + c ≤ m
    fitting = omega (arith, next_place, before_within τs H (i + 1), L.total)

    -- they are those of the next records
    next_jobs : (σ : Run) → OfTasks l n H m σ → OfTask σ i at c
    next_jobs σ J = record { each = at_place }
      where
        at_place : (j : ℕ) → j < c → job_of (rec σ (at + j)) ≡ (i, j)
        at_place j g =
            record_job σ J.jobs (at + j) (omega (arith, fitting, J.count))
            ∙ ap (λ qs. get_or qs (at + j) (0, 0)) (existing_jobs σ σ.setting.horizon ∙ (λ κ. jobs (of_first J κ) (J.horizon κ)))
            ∙ ap (λ k. get_or (jobs τs H) (k + j) (0, 0)) L.place
            ∙ job_at τs H i j h (omega (arith, is-count))

    pub listing_on : {t' : List ℕ} → length t' ≡ length t → ((σ : Run) → OfTask σ i at c → Rows 0 2 at σ t m → Rows 0 2 (at + c) σ t' m)
        → Listing l n H t₀ m t' (at + c) (i + 1)
    listing_on e put =
        record {
          long = e ∙ L.long;
          sized = sized_as e L.sized;
          total = L.total;
          place = next_place;
          rows = λ σ J. put σ (next_jobs σ J) (L.rows σ J);
        }
