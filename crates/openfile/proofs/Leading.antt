-- A list that begins with a run's tasks, and what is known of the run by it. Assumes nothing.
use Prim.Native.Nat.{ℕ}
use mathlib.Core.Path.{◌≡◌, sym, ◌∙◌, ap}
use mathlib.Core.List.{List, ◌++◌}
use native.Mathlib.Omega.{arith}
use lib.ListN.{length, take, length-append, get_or-append}
use lib.Seq.{length-take-le, get_or-take, ext_get_or}
use Rattle.model.specs.declared.task.Task.{Task}
use Rattle.model.specs.Model.{Run, task, no_task}
use Rattle.openfile.specs.declared.head.Head.{Head}
use Rattle.openfile.specs.Head.{Tells, Leads, Known}
use Rattle.openfile.proofs.WholeOrRefused.{tells_limits}

pub leads_front : {ρ : Run} {l : List Task} (rest : List Task) → l ≡ ρ.tasks ++ rest → Leads ρ l
leads_front {ρ} rest e =
    record {
      room = omega (arith, ap length e ∙ length-append ρ.tasks rest);
      each = λ i h. ap (λ τs. task τs i) e ∙ get_or-append ρ.tasks rest no_task i h;
    }

-- of two runs with the same tasks
pub leads_same : {ρ σ : Run} {l : List Task} → σ.tasks ≡ ρ.tasks → Leads ρ l → Leads σ l
leads_same e L = record { room = rw e L.room; each = rw e L.each }

-- the tasks are the first entries
pub leads_take : {ρ : Run} {l : List Task} {n : ℕ} → Leads ρ l → n ≡ length ρ.tasks → ρ.tasks ≡ take n l
leads_take {ρ} {l} {n} L e =
    let long : length (take n l) ≡ n = length-take-le n l (omega (arith, L.room)) in
    ext_get_or no_task ρ.tasks (take n l) (sym (long ∙ e)) (λ i h. sym (get_or-take n l i no_task (omega arith) ∙ L.each i h))

pub tells_known : {b : List ℕ} {h : Head} {l : List Task} {ρ : Run} → Tells b h ρ → Leads ρ l → Known h l ρ
tells_known T L = record { limits = tells_limits T; head = T.head; tasks = L }
