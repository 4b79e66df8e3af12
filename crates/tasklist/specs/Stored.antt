-- What decoding into a lent list answers and stores.
use Rattle.std.specs.Prelude.{ℕ, ◌≤◌, ◌≡◌, Bool, true, false, List, ◌++◌, ◌-◌, replicate, leb, length, drop, None, Option, Some, Result, Ok, Err}
use Rattle.std.specs.Result.{result_unwrap_or}
use Rattle.model.specs.declared.task.Task.{Task}
use Rattle.model.specs.declared.refusal.Refusal.{Refusal}
use Rattle.model.specs.declared.refusal.Refusal.TheVariants.{NoRoom}
use Rattle.model.specs.Answers.{refusal_numbers}
use Rattle.model.specs.Model.{most_tasks, no_task}
use Rattle.model.specs.File.{Read, refused, whole, read, tasks_in, decoded}
use Rattle.runfile.specs.TasksThere.{TasksThere}
use Rattle.openfile.specs.Head.{run_in}

-- the refusal that an answer tells, by its numbers
abbrev pub refusal_in : Result ℕ Refusal → Option (ℕ × ℕ)
refusal_in (Ok n) = None
refusal_in (Err r) = Some (refusal_numbers r)

-- how many tasks are stored in a list with room for so many
abbrev pub count_if : Bool → ℕ → ℕ
count_if true n = n
count_if false n = 0

abbrev pub count_of : Read → ℕ → ℕ
count_of (refused ν i) room = 0
count_of (whole ρ) room = count_if (leb (length ρ.tasks) room) (length ρ.tasks)

-- n tasks into a list with room for so many: 11, or all of them are stored
abbrev pub room_if : Bool → ℕ → Result ℕ Refusal
room_if true n = Ok n
room_if false n = Err NoRoom

abbrev pub Rooms : ℕ → ℕ → Result ℕ Refusal → Type 0
Rooms n room r = r ≡ room_if (leb n room) n

-- a file has the bytes of n tasks, and a list with room for m has room for them
pub record HasTasks (b : List ℕ) (n m : ℕ) : Type 0 where
  pub there : TasksThere b n
  pub room : n ≤ m

-- tasks in a list for those of any file, with tasks of zeros after them
abbrev pub with_no_tasks : List Task → List Task
with_no_tasks τs = τs ++ replicate (most_tasks - length τs) no_task

-- the first n tasks of a file stored in a list: the entries past them keep their values
abbrev pub Filled : List ℕ → ℕ → List Task → List Task → Type 0
Filled b n before after = after ≡ tasks_in b n ++ drop n before

-- what is decoded of a file into a list, if the answer's count of tasks is stored
pub record Plans (b : List ℕ) (list : List Task) (r : Result ℕ Refusal) : Type 0 where
  pub refusal : refusal_in r ≡ (decoded b list).refusal
  pub stored : tasks_in b (result_unwrap_or r 0) ++ drop (result_unwrap_or r 0) list ≡ (decoded b list).list
  pub count : result_unwrap_or r 0 ≡ count_of (read b) (length list)
  pub room : result_unwrap_or r 0 ≤ length list
  pub there : TasksThere b (result_unwrap_or r 0)

-- a list before and after, and the answer
pub record Stores (b : List ℕ) (before after : List Task) (r : Result ℕ Refusal) : Type 0 where
  pub refusal : refusal_in r ≡ (decoded b before).refusal
  pub list : after ≡ (decoded b before).list
  pub count : result_unwrap_or r 0 ≡ count_of (read b) (length before)

-- the tasks of the run that a file tells, in such a list
abbrev pub Decodes : List ℕ → List Task → Type 0
Decodes b l = l ≡ with_no_tasks (run_in b).tasks
