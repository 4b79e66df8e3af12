-- What each step of a carry hands to the next: what stands at H to the starts, and what has started to the file. Assumes nothing.
use Prim.Native.Nat.{ℕ, ◌≤◌}
use mathlib.Core.Path.{◌≡◌, ◌∙◌, sym, ap}
use mathlib.Core.List.{List}
use native.Mathlib.Omega.{arith}
use lib.ListN.{length}
use Rattle.model.specs.declared.task.Task.{Task}
use Rattle.model.specs.Model.{Run, most_records}
use Rattle.model.specs.Carry.{opening, carried}
use Rattle.model.proofs.Jobs.{existing_few}
use Rattle.carrytheory.proofs.Demand3.{carried_setting, carried_tasks}
use Rattle.openfile.specs.declared.head.Head.{Head}
use Rattle.openfile.proofs.Leading.{leads_same}
use Rattle.openfile.proofs.WholeOrRefused.{tells_limits, tells_setting, tells_task_count}
use Rattle.starts.specs.Opened.{Opened}
use Rattle.writing.specs.RunOfTable.{Tabled}
use Rattle.table.specs.Table.{Lent, columns}
use Rattle.table.proofs.LentLaws.{lent_fewer}
use Rattle.carryrun.specs.Writable.{Writable}

module _ {b : List ℕ} {h : Head} {l : List Task} {H' m room : ℕ} {ρ : Run} (W : Writable b h l H' m room ρ) where
  pub few_jobs : m ≤ most_records
  few_jobs = omega (arith, W.carriable.count, W.carriable.allowed.few, existing_few ρ H')

  pub opened : {t : List ℕ} → Lent columns (opening ρ H') t m → Opened ρ H' h.setting.cores h.setting.horizon t m
  opened T =
      let K = W.carriable in
      record {
        limits = tells_limits K.tells;
        obeys = W.obeys;
        cores = ap (λ s. s.cores) (tells_setting K.tells);
        horizon = ap (λ s. s.horizon) (tells_setting K.tells);
        allowed = K.allowed;
        table = T;
      }

  pub tabled : {t : List ℕ} → Lent columns (carried ρ H') t m → Tabled h H' l t m (carried ρ H')
  tabled T =
      let K = W.carriable in
      let R = K.allowed in
      let L = tells_limits K.tells in
      let same : (carried ρ H').tasks ≡ ρ.tasks = carried_tasks ρ H' L W.obeys R.longer R.most R.few in
      record {
        setting = rw (tells_setting K.tells) (carried_setting ρ H' L W.obeys R.longer R.most R.few);
        task_total = tells_task_count K.tells ∙ ap length (sym same);
        tasks = leads_same same K.tasks;
        table = lent_fewer T 6 (omega arith);
      }
