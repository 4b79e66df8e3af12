use Prim.Native.Nat.{◌+◌, ◌≤◌}
use mathlib.Core.Path.{◌≡◌, sym, ◌∙◌, ap}
use mathlib.Core.List.{List}
use native.Mathlib.Omega.{arith}
use borrow.Author.Rules.{rules}
use lib.ListN.{length, take}
use Rattle.model.specs.declared.task.Task.{Task}
use Rattle.model.specs.Model.{Run, most_jobs, job_count, task}
use Rattle.openfile.specs.declared.head.Head.{Head}
use Rattle.openfile.specs.Head.{Known}
use Rattle.openfile.proofs.Leading.{leads_take}
use Rattle.openfile.proofs.WholeOrRefused.{head_setting, head_task_count, head_count}
use Rattle.table.specs.Table.{Lent, recorded}
use Rattle.table.proofs.LentLaws.{column_of_lem}
use Rattle.loadrun.proofs.SameJobs.{NextTask, next_fits, task_same, task_differs, past_them}
use Rattle.loadrun.proofs.jobs.jobs_place.Goals as goal
use Rattle.loadrun.proofs.jobs.jobs_place.Goals.{After-column-in-loop-i}

-- the part of the list that is gone over
tasks_are : {h : Head} {l : List Task} (ρ : Run) → Known h l ρ → take h.tasks l ≡ ρ.tasks
tasks_are ρ K = sym (leads_take K.tasks (head_task_count ρ K.head))

-- what is known of a run where its jobs of task i are next
next : (c : After-column-in-loop-i)
    → let a = c.args in
    let l = c.loop-i in
    (ρ : Run) → Known a.head a.tasks ρ → Lent recorded ρ a.t.now a.head.records
    → NextTask ρ c.column.result.now c.column-in-loop-i.result.now l.i l.at c.jobs-count.result
next c ρ K L =
    let e = tasks_are ρ K in
    record {
      to_here = c.loop-i.invariant.1 ρ K L;
      is_task = rw e at c.loop-i-test.true;
      counted = c.jobs-count.ensures ∙ (λ κ. job_count (task (e κ) c.loop-i.i) (head_setting ρ K.head κ).horizon);
      tasks = rw c.column.ensures.0 (column_of_lem L 0 (omega arith) (omega arith));
      numbers = rw c.column-in-loop-i.ensures.0 (column_of_lem L 1 (omega arith) (omega arith));
    }

few : (c : After-column-in-loop-i) → c.loop-i.at + c.jobs-count.result ≤ most_jobs
few c = let (ρ, K, L) = c.requires in next_fits (next c ρ K L) K.limits

pub task_place-requires : goal.task_place-requires
task_place-requires c = (search rules, few ((goal.at.task_place-requires c).After-column-in-loop-i))

pub returns-in-Some : goal.returns-in-Some
returns-in-Some c = λ ρ K L. task_differs (next ((goal.at.returns-in-Some c).After-column-in-loop-i) ρ K L) c.task_place.ensures c.in-Some.is

pub loop-i-preserved : goal.loop-i-preserved
loop-i-preserved c =
    let n = (goal.at.loop-i-preserved c).After-column-in-loop-i in
    (few n, λ ρ K L. task_same (next n ρ K L) c.task_place.ensures c.in_default.is)

pub returns : goal.returns
returns c = λ ρ K L.
    let i = c.loop-i.i in
    let s = c.loop-i.invariant.1 ρ K L in
    let all : i ≡ length ρ.tasks = let e = ap length (tasks_are ρ K) in omega arith in
    past_them s all (head_count ρ K.head) c.then_some.ensures
