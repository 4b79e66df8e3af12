-- Document 01, "The model in numbers", and document 02, request 3: when a job is ready. Times are whole ticks.
use Rattle.std.specs.Prelude.{ℕ, zero, suc, ◌+◌, ◌*◌, ◌-◌, ◌/◌, ◌≤◌, ◌<◌, max, Bool, ◌&&◌, List, [], ◌∷◌, ◌++◌, map, eqb, length, get_or, None, Option, Some}
use Rattle.base.specs.Find.{first}
use Rattle.model.specs.declared.setting.Setting.{Setting}
use Rattle.model.specs.declared.task.Task.{Task}
use Rattle.model.specs.declared.record.Record.{Record}

-- A setting has N cores (1 to 16) and a horizon H (1 to 1,000,000).
-- -----------------------------------------------------------------
abbrev pub most_cores : ℕ
most_cores = 16

abbrev pub most_horizon : ℕ
most_horizon = 1000000

pub record SettingInRange (σ : Setting) : Type 0 where
  pub cores : (1 ≤ σ.cores) × (σ.cores ≤ most_cores)
  pub horizon : (1 ≤ σ.horizon) × (σ.horizon ≤ most_horizon)

-- There are 1 to 32 tasks, numbered from 0, each with period P (1 to 1,000,000), least and greatest time B and W
-- (1 ≤ B ≤ W ≤ 1,000,000), offset O (0 to 1,000,000) and jitter J (0 ≤ J < P).
-- --------------------------------------------------------------------------------------------------------------
abbrev pub most_tasks : ℕ
most_tasks = 32

abbrev pub most_period : ℕ
most_period = 1000000

abbrev pub most_time : ℕ
most_time = 1000000

abbrev pub most_offset : ℕ
most_offset = 1000000

pub record TaskInRange (τ : Task) : Type 0 where
  pub period : (1 ≤ τ.period) × (τ.period ≤ most_period)
  pub times : (1 ≤ τ.least) × (τ.least ≤ τ.greatest) × (τ.greatest ≤ most_time)
  pub offset : τ.offset ≤ most_offset
  pub jitter : τ.jitter < τ.period

-- Job j of a task, j from 0, exists when jP + O < H. Its deadline is (j+1)P + O, jitter not counted.
-- --------------------------------------------------------------------------------------------------

-- jP + O
abbrev pub arrival : Task → ℕ → ℕ
arrival τ j = j * τ.period + τ.offset

abbrev pub Exists : Task → ℕ → ℕ → Type 0
Exists τ H j = arrival τ j < H

abbrev pub deadline : Task → ℕ → ℕ
deadline τ j = (j + 1) * τ.period + τ.offset

-- How many jobs a task has: (H - O)/P rounded up, so that the jobs below this number are those that exist (law
-- `job_exists`). A task with O ≥ H has no job.
unfoldable pub job_count : Task → ℕ → ℕ
job_count τ H = ((H - τ.offset) + (τ.period - 1)) / τ.period

-- A job by its task's number and its own.
abbrev pub Job : Type 0
Job = ℕ × ℕ

-- n jobs of task i: (i, j), (i, j + 1), ..
abbrev pub count_up : ℕ → ℕ → ℕ → List Job
count_up i j zero = []
count_up i j (suc n) = (i, j) ∷ count_up i (suc j) n

-- The jobs of the tasks i, i + 1, .., of which there are so many each: in order of task, then job.
abbrev pub jobs_from : ℕ → List ℕ → List Job
jobs_from i [] = []
jobs_from i (n ∷ ns) = count_up i 0 n ++ jobs_from (suc i) ns

abbrev pub counts : List Task → ℕ → List ℕ
counts [] H = []
counts (τ ∷ τs) H = job_count τ H ∷ counts τs H

-- The existing jobs of the tasks at a horizon, in order (laws `exists_iff`, `rising`).
abbrev pub jobs : List Task → ℕ → List Job
jobs τs H = jobs_from 0 (counts τs H)

-- All tasks together may have at most 512 jobs; none at all is allowed.
-- ---------------------------------------------------------------------
abbrev pub most_jobs : ℕ
most_jobs = 512

abbrev pub sum : List ℕ → ℕ
sum [] = 0
sum (n ∷ ns) = n + sum ns

abbrev pub total_jobs : List Task → ℕ → ℕ
total_jobs τs H = sum (counts τs H)

-- A record is one job's task, job, release r, start s, end e and core. A run is a setting, its tasks and its records.
-- -------------------------------------------------------------------------------------------------------------------
abbrev pub most_records : ℕ
most_records = 512

pub record Run : Type 0 where
  pub setting : Setting
  pub tasks : List Task
  pub records : List Record

-- What stands where there is no task, and no record: rule 1 lets neither pass.
abbrev pub no_task : Task
no_task = record { period = 0; least = 0; greatest = 0; offset = 0; jitter = 0 }

abbrev pub no_record : Record
no_record = record { task = 0; job = 0; release = 0; start = 0; end = 0; core = 0 }

abbrev pub task : List Task → ℕ → Task
task τs i = get_or τs i no_task

abbrev pub job_of : Record → Job
job_of x = (x.task, x.job)

abbrev pub same_job : Job → Job → Bool
same_job p q = eqb p.0 q.0 && eqb p.1 q.1

module _ (ρ : Run) where
  abbrev pub IsRecord : ℕ → Type 0
  IsRecord k = k < length ρ.records

  -- record k, and the task whose job it is
  abbrev pub rec : ℕ → Record
  rec k = get_or ρ.records k no_record

  abbrev pub task_of : ℕ → Task
  task_of k = task ρ.tasks (rec k).task

  -- when the job of record k is due
  unfoldable pub due : ℕ → ℕ
  due k = deadline (task_of k) (rec k).job

  -- what goes first goes by: the deadline
  unfoldable pub rank : ℕ → ℕ
  rank k = due k

  -- the least record of a job, if it has one
  abbrev pub place_of : Job → Option ℕ
  place_of q = first (λ k. same_job (job_of (rec k)) q) 0 (length ρ.records)

  -- the record of the job before job j of task i, if there is one: job 0 has none before it
  abbrev pub job_before : ℕ → ℕ → Option ℕ
  job_before i zero = None
  job_before i (suc j) = place_of (i, j)

  -- its task's preceding job: the least record of that task and the job before
  unfoldable pub preceding : ℕ → Option ℕ
  preceding k = job_before (rec k).task (rec k).job

  -- the end of a record, if there is one; else 0, before which nothing starts
  abbrev pub end_if : Option ℕ → ℕ
  end_if None = 0
  end_if (Some p) = (rec p).end

  -- the end of its task's preceding job, if there is one
  unfoldable pub end_before : ℕ → ℕ
  end_before k = end_if (preceding k)

  -- A job is ready at the later of its release and the end of its task's preceding job, if there is one.
  unfoldable pub ready : ℕ → ℕ
  ready k = max (rec k).release (end_before k)

  -- the length of record k, and the sum of the lengths of several
  abbrev pub length_of : ℕ → ℕ
  length_of k = (rec k).end - (rec k).start

  abbrev pub lengths : List ℕ → ℕ
  lengths l = sum (map length_of l)

  -- the jobs of the run that exist at a horizon
  unfoldable pub existing : ℕ → List Job
  existing H = jobs ρ.tasks H

-- A run within all limits.
pub record WithinLimits (ρ : Run) : Type 0 where
  pub setting : SettingInRange ρ.setting
  pub task_total : (1 ≤ length ρ.tasks) × (length ρ.tasks ≤ most_tasks)
  pub tasks : (i : ℕ) → i < length ρ.tasks → TaskInRange (task ρ.tasks i)
  pub job_total : total_jobs ρ.tasks ρ.setting.horizon ≤ most_jobs
  pub record_total : length ρ.records ≤ most_records
