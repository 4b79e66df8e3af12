-- The tasks that the file tells, and tasks of zeros after them. Assumes nothing.
use Prim.Native.Nat.{ℕ, ◌-◌}
use mathlib.Core.Path.{◌≡◌, sym, ◌∙◌, ap}
use mathlib.Core.List.{List, ◌++◌}
use lib.ListN.{length, replicate}
use Rattle.base.proofs.Arrays.{drop-replicate}
use Rattle.model.specs.declared.task.Task.{Task}
use Rattle.model.specs.Model.{Run, most_tasks, no_task}
use Rattle.openfile.specs.declared.head.Head.{Head}
use Rattle.openfile.specs.Head.{Tells}
use Rattle.openfile.proofs.WholeOrRefused.{tells_task_count, tells_few, tells_room, tells_tasks}
use Rattle.tasklist.specs.Stored.{Filled}
use Rattle.tasklist.proofs.tasks_of.Goals as goal

pub filled-requires : goal.filled-requires
filled-requires c = let T = c.args.o.tells in record { there = tells_room T; room = (tells_few T).1 }

zeros-after : {b : List ℕ} {h : Head} {ρ : Run} {l : List Task} → Tells b h ρ → Filled b h.tasks (replicate most_tasks no_task) l
    → l ≡ ρ.tasks ++ replicate (most_tasks - length ρ.tasks) no_task
zeros-after {h = h} T e =
    let rest = drop-replicate h.tasks most_tasks no_task (tells_few T).1 ∙ ap (λ n. replicate (most_tasks - n) no_task) (tells_task_count T) in
    e ∙ (λ κ. sym (tells_tasks T) κ ++ rest κ)

pub returns : goal.returns
returns c = zeros-after c.args.o.tells c.filled.ensures
