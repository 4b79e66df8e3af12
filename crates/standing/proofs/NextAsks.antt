-- What the calls of `open_table` ask for: what stands at H of a run that is to be carried keeps the limits and obeys rule 1. Assumes
-- nothing.
use Prim.Native.Nat.{ℕ}
use mathlib.Core.Path.{◌≡◌, refl, sym, ◌∙◌}
use mathlib.Core.List.{List}
use native.Mathlib.Omega.{arith}
use lib.ListN.{length}
use Rattle.carrytheory.proofs.AtH.{opening_jobs, opening_tasks, opening_count}
use Rattle.model.specs.Carry.{opening}
use Rattle.model.specs.declared.task.Task.{Task}
use Rattle.model.specs.Model.{Run, WithinLimits}
use Rattle.model.proofs.Jobs.{existing_few}
use Rattle.openfile.specs.declared.head.Head.{Head}
use Rattle.openfile.specs.Head.{Leads}
use Rattle.openfile.proofs.Leading.{leads_same}
use Rattle.openfile.proofs.WholeOrRefused.{tells_limits, tells_task_count}
use Rattle.table.specs.Table.{Lent}
use Rattle.times.specs.Times.{Listed}
use Rattle.standing.specs.WhoseRows.{OfTasks}
use Rattle.standing.specs.Carriable.{Carriable}

module _ {b : List ℕ} {h : Head} {l : List Task} {H' m : ℕ} {ρ : Run} (C : Carriable b h l H' m ρ) where
  stands_count : m ≡ length (opening ρ H').records
  stands_count = C.count ∙ sym (opening_count ρ H')

  stands_limits : WithinLimits (opening ρ H')
  unfolding opening
  stands_limits =
      let W = tells_limits C.tells in
      record {
        setting = record { cores = W.setting.cores; horizon = (omega (arith, W.setting.horizon, C.allowed.longer), C.allowed.most) };
        task_total = W.task_total;
        tasks = W.tasks;
        job_total = C.allowed.few;
        record_total = omega (arith, stands_count, C.count, existing_few ρ H', C.allowed.few);
      }

  stands_tasks : Leads (opening ρ H') l
  stands_tasks = leads_same (opening_tasks ρ H') C.tasks

  pub stands_jobs : OfTasks l h.tasks H' m (opening ρ H')
  unfolding opening
  stands_jobs =
      record {
        limits = stands_limits;
        jobs = opening_jobs ρ H';
        tasks = stands_tasks;
        task_total = tells_task_count C.tells;
        horizon = refl;
        count = stands_count;
      }

  pub stands_listed : {j : ℕ} {t : List ℕ} → Lent j (opening ρ H') t m → Listed (opening ρ H') l j t m
  stands_listed L = record { tasks = stands_tasks; jobs = opening_jobs ρ H'; table = L }
