-- The jobs of a file that tells a run: each of its tasks is within its ranges, so that all are counted. Assumes nothing.
use Rattle.std.specs.Prelude.{Result}
use Rattle.std.specs.Result.{result_unwrap_or}
use Prim.Native.Nat.{ℕ}
use mathlib.Core.Path.{◌≡◌, sym, ◌∙◌, ap}
use mathlib.Core.List.{List}
use Rattle.base.proofs.Find.{some≢none}
use Rattle.model.specs.declared.refusal.Refusal.{Refusal}
use Rattle.model.specs.Compute.Limits.{bad_task}
use Rattle.model.specs.File.{tasks_in}
use Rattle.model.specs.Model.{Run, total_jobs}
use Rattle.model.proofs.Limits.{tasks_fine}
use Rattle.openfile.specs.declared.head.Head.{Head}
use Rattle.openfile.specs.Head.{Tells, Tallies}
use Rattle.openfile.proofs.WholeOrRefused.{tells_limits, tells_tasks}

pub jobs_told : {b : List ℕ} {h : Head} {ρ : Run} {H : ℕ} {r : Result ℕ Refusal} → Tells b h ρ → Tallies (tasks_in b h.tasks) H r
    → result_unwrap_or r 0 ≡ total_jobs ρ.tasks H
jobs_told {b} {h} {ρ} {H} T = go
  where
    go : {r : Result ℕ Refusal} → Tallies (tasks_in b h.tasks) H r → result_unwrap_or r 0 ≡ total_jobs ρ.tasks H
    go (Tallies.out_of_range e) =
        absurd (some≢none (sym e ∙ ap bad_task (sym (tells_tasks T)) ∙ (tasks_fine ρ.tasks).1 (tells_limits T).tasks))
    go (Tallies.all_in_range e j) = j ∙ ap (λ τs. total_jobs τs H) (sym (tells_tasks T))
