-- Document 01, "The run file", and the refusals 1 to 8, judged from the front.
use Rattle.std.specs.Prelude.{ℕ, zero, suc, ◌+◌, ◌*◌, ◌/◌, ◌%◌, ◌<◌, Bool, true, false, List, [], ◌∷◌, ◌++◌, leb, ltb, eqb, length, get_or, take, drop, None, Option, Some}
use Rattle.model.specs.declared.setting.Setting.{Setting}
use Rattle.model.specs.declared.task.Task.{Task}
use Rattle.model.specs.declared.record.Record.{Record}
use Rattle.model.specs.Model.{Run, most_tasks, most_jobs, most_records, total_jobs}
use Rattle.model.specs.Compute.Limits.{within, setting_in_range, bad_task}

-- All numbers are unsigned, four bytes, low byte first.
-- -----------------------------------------------------

-- the number at a place of a file
abbrev pub num : List ℕ → ℕ → ℕ
num b i = get_or b i 0 + 256 * get_or b (i + 1) 0 + 65536 * get_or b (i + 2) 0 + 16777216 * get_or b (i + 3) 0

-- the four bytes of a number
abbrev pub bytes4 : ℕ → List ℕ
bytes4 v = v % 256 ∷ v / 256 % 256 ∷ v / 65536 % 256 ∷ v / 16777216 % 256 ∷ []

-- every entry of a list is a byte, as of a slice of bytes
abbrev pub Bytes : List ℕ → Type 0
Bytes b = (i : ℕ) → get_or b i 0 < 256

-- numbers one after the other
abbrev pub bytes_of : List ℕ → List ℕ
bytes_of [] = []
bytes_of (v ∷ vs) = bytes4 v ++ bytes_of vs

-- Three sections in this order, each after its count.
-- ---------------------------------------------------

-- setting: count 2, and the two numbers are N and H
abbrev pub setting_numbers : Setting → List ℕ
setting_numbers σ = σ.cores ∷ σ.horizon ∷ []

-- tasks: P, B, W, O, J
abbrev pub task_numbers : Task → List ℕ
task_numbers τ = τ.period ∷ τ.least ∷ τ.greatest ∷ τ.offset ∷ τ.jitter ∷ []

-- records: task, job, r, s, e, core
abbrev pub record_numbers : Record → List ℕ
record_numbers x = x.task ∷ x.job ∷ x.release ∷ x.start ∷ x.end ∷ x.core ∷ []

-- Any four-byte value may stand in a record.
abbrev pub FourBytes : ℕ → Type 0
FourBytes v = v < 4294967296

abbrev pub RecordFits : Record → Type 0
RecordFits x = (j : ℕ) → FourBytes (get_or (record_numbers x) j 0)

-- entries one after the other
abbrev pub joined : {A : Type 0} → (A → List ℕ) → List A → List ℕ
joined f [] = []
joined f (x ∷ xs) = f x ++ joined f xs

-- the run file of a run
unfoldable pub bytes : Run → List ℕ
bytes ρ =
    bytes_of
    (2 ∷ setting_numbers ρ.setting
    ++ (length ρ.tasks ∷ joined task_numbers ρ.tasks)
    ++ (length ρ.records ∷ joined record_numbers ρ.records))

-- The same read: a setting, a task, a record whose numbers begin at a place.
abbrev pub setting_at : List ℕ → ℕ → Setting
setting_at b i = record { cores = num b i; horizon = num b (i + 4) }

abbrev pub task_at : List ℕ → ℕ → Task
task_at b i =
    record { period = num b i; least = num b (i + 4); greatest = num b (i + 8); offset = num b (i + 12); jitter = num b (i + 16) }

abbrev pub record_at : List ℕ → ℕ → Record
record_at b i =
    record { task = num b i; job = num b (i + 4); release = num b (i + 8); start = num b (i + 12); end = num b (i + 16); core = num b (i + 20) }

-- n entries of a size in bytes, from a place on
abbrev pub entries : {A : Type 0} → (ℕ → A) → ℕ → ℕ → ℕ → List A
entries entry size i zero = []
entries entry size i (suc n) = entry i ∷ entries entry size (i + size) n

-- how many bytes a task and a record have
abbrev pub task_size : ℕ
task_size = 20

abbrev pub record_size : ℕ
record_size = 24

-- where the tasks' count stands, and the records' count after n tasks
abbrev pub tasks_place : ℕ
tasks_place = 12

abbrev pub records_place : ℕ → ℕ
records_place n = tasks_place + 4 + task_size * n

-- how many bytes a file of n tasks and m records has
abbrev pub size_of : ℕ → ℕ → ℕ
size_of n m = records_place n + 4 + record_size * m

-- The longest file that is read through has 12,948 bytes.
abbrev pub longest_file : ℕ
longest_file = 12948

-- The file is judged from the front and the first fault met is the answer.
-- ------------------------------------------------------------------------
pub data Read : Type 0 where
  refused : ℕ → ℕ → Read
  whole : Run → Read

-- the refusal of a file, by its number and task, if it is refused
abbrev pub refusal_of : Read → Option (ℕ × ℕ)
refusal_of (refused ν i) = Some (ν, i)
refusal_of (whole ρ) = None

-- refused with a number, unless the test passes
unfoldable pub gate : ℕ → Bool → Read → Read
gate ν true r = r
gate ν false r = refused ν 0

-- refused with 5 and the task, unless there is no such task
unfoldable pub gate_task : Option ℕ → Read → Read
gate_task None r = r
gate_task (Some i) r = refused 5 i

module _ (b : List ℕ) where
  -- the tasks of a file that says that it has n
  abbrev pub tasks_in : ℕ → List Task
  tasks_in n = entries (task_at b) task_size (tasks_place + 4) n

  -- the first k bytes are there
  abbrev pub has : ℕ → Bool
  has k = leb k (length b)

  unfoldable pub run_at : Setting → List Task → ℕ → ℕ → Run
  run_at σ τs i n = record { setting = σ; tasks = τs; records = entries (record_at b) record_size i n }

  -- The records, their count at place i: 1 the count is cut off, 7 it is above 512, 1 an entry is cut off, 8 more bytes follow.
  unfoldable pub read_records : Setting → List Task → ℕ → Read
  read_records σ τs i =
      let n = num b i in
      let end = i + 4 + record_size * n in
      gate 1 (has (i + 4))
      (gate 7 (leb n most_records)
      (gate 1 (has end)
      (gate 8 (leb (length b) end)
      (whole (run_at σ τs (i + 4) n)))))

  -- The tasks, their count at place 12: 1 the count is cut off, 4 it is not 1 to 32, 1 an entry is cut off, 5 a task is out of its
  -- ranges, 6 there are more than 512 jobs at H.
  unfoldable pub read_tasks : Setting → Read
  read_tasks σ =
      let n = num b tasks_place in
      let τs = tasks_in n in
      gate 1 (has (tasks_place + 4))
      (gate 4 (within 1 most_tasks n)
      (gate 1 (has (records_place n))
      (gate_task (bad_task τs)
      (gate 6 (leb (total_jobs τs σ.horizon) most_jobs)
      (read_records σ τs (records_place n))))))

  -- The setting, its count at place 0: 1 the count is cut off, 2 it is not 2, 1 an entry is cut off, 3 N or H is out of range.
  unfoldable pub read : Read
  read =
      gate 1 (has 4)
      (gate 2 (eqb (num b 0) 2)
      (gate 1 (has tasks_place)
      (gate 3 (setting_in_range (setting_at b 4))
      (read_tasks (setting_at b 4)))))

-- A reader over the lent file gives record k as the 24 bytes of the file that it is.
-- -----------------------------------------------------------------------------------

-- a part of a file: where it begins, and how many bytes it has
pub record Part : Type 0 where
  pub from : ℕ
  pub size : ℕ

abbrev pub part_of : List ℕ → Part → List ℕ
part_of b p = take p.size (drop p.from b)

-- the empty front part
abbrev pub empty_part : Part
empty_part = record { from = 0; size = 0 }

abbrev pub record_place : Run → ℕ → ℕ
record_place ρ k = records_place (length ρ.tasks) + 4 + record_size * k

abbrev pub part_if : Bool → Run → ℕ → Part
part_if true ρ k = record { from = record_place ρ k; size = record_size }
part_if false ρ k = empty_part

-- For a k not below the record count, or a file that is refused, it gives an empty part.
abbrev pub record_part_of : Read → ℕ → Part
record_part_of (refused ν i) k = empty_part
record_part_of (whole ρ) k = part_if (ltb k (length ρ.records)) ρ k

unfoldable pub record_part : List ℕ → ℕ → Part
record_part b k = record_part_of (read b) k

-- Decoded tasks stand in a list the caller lends, one entry a task.
-- -----------------------------------------------------------------

-- the refusal, as its number and task, if there is one; and the list afterwards
pub record Decoded : Type 0 where
  pub refusal : Option (ℕ × ℕ)
  pub list : List Task

-- A list with fewer entries than the file has tasks is refusal 11; entries past the last task keep their values.
abbrev pub decoded_if : Bool → List Task → List Task → Decoded
decoded_if true τs list = record { refusal = None; list = τs ++ drop (length τs) list }
decoded_if false τs list = record { refusal = Some (11, 0); list = list }

-- The file's own refusals come first; a refusal changes no entry.
abbrev pub decoded_of : Read → List Task → Decoded
decoded_of (refused ν i) list = record { refusal = Some (ν, i); list = list }
decoded_of (whole ρ) list = decoded_if (leb (length ρ.tasks) (length list)) ρ.tasks list

unfoldable pub decoded : List ℕ → List Task → Decoded
decoded b list = decoded_of (read b) list
