-- Tasks stored one after the other into a list. Assumes nothing.
use Prim.Native.Nat.{ℕ, suc, ◌+◌, ◌*◌, ◌≤◌, ◌<◌}
use mathlib.Core.Path.{◌≡◌, sym, ◌∙◌, ap}
use mathlib.Core.List.{List, ◌++◌}
use native.Mathlib.Numerals.{add-one}
use native.Mathlib.Omega.{arith}
use lib.ListN.{length, drop, get_or, set, length-append, length-drop}
use lib.Seq.{drop-cons, set_at, append_snoc}
use Rattle.model.specs.declared.task.Task.{Task}
use Rattle.model.specs.Model.{no_task}
use Rattle.model.specs.File.{task_at, tasks_in, tasks_place, task_size}
use Rattle.model.proofs.Reading.{length-entries, entries_on}

module _ (b : List ℕ) (l : List Task) where
  -- the first k tasks stand in the list
  abbrev pub stored : ℕ → List Task
  stored k = tasks_in b k ++ drop k l

  pub length-stored : (k : ℕ) → k ≤ length l → length (stored k) ≡ length l
  length-stored k h =
      let n = length-entries (task_at b) task_size (tasks_place + 4) k in
      simp (length-append, length-drop) (omega arith)

  pub stored_on : (k : ℕ) → k < length l → set (stored k) k (task_at b (tasks_place + 4 + task_size * k)) ≡ stored (suc k)
  stored_on k h =
      rw (drop-cons l k no_task h)
      (set_at (tasks_in b k) (get_or l k no_task) (drop (suc k) l) (task_at b (tasks_place + 4 + task_size * k)) k (length-entries (task_at b) task_size (tasks_place + 4) k)
      ∙ sym (append_snoc (tasks_in b k) (task_at b (tasks_place + 4 + task_size * k)) (drop (suc k) l))
      ∙ ap (λ x. x ++ drop (suc k) l) (sym (entries_on (task_at b) task_size (tasks_place + 4) k) ∙ ap (tasks_in b) (add-one k)))
