-- The longest file that is read through has 12,948 bytes: none is longer (`longest`, Reading.antt), and here is one. Assumes nothing.
use Prim.Native.Nat.{ℕ, ◌≤◌}
use mathlib.Core.Path.{◌≡◌, sym, subst}
use mathlib.Core.List.{List}
use native.Mathlib.Omega.{arith}
use lib.ListN.{length, replicate, length-replicate, get_or-replicate}
use Rattle.model.specs.declared.task.Task.{Task}
use Rattle.model.specs.Model.{Run, IsRecord, WithinLimits, TaskInRange, no_task, no_record, rec, job_count, total_jobs, most_tasks, most_jobs, most_records}
use Rattle.model.specs.File.{record_numbers, RecordFits, bytes, longest_file, read, whole}
use Rattle.model.proofs.RoundTrip.{Fits, fits_nil, fits_cons, length-bytes, read_back}

-- 32 tasks and 512 records
abbrev one_tick : Task
one_tick = record { period = 1; least = 1; greatest = 1; offset = 1; jitter = 0 }

full : Run
full =
    record {
      setting = record { cores = 1; horizon = 1 };
      tasks = replicate most_tasks one_tick;
      records = replicate most_records no_record;
    }

in_range : TaskInRange one_tick
in_range =
    record {
      period = (omega arith, omega arith);
      times = (omega arith, omega arith, omega arith);
      offset = omega arith;
      jitter = omega arith;
    }

no_job : total_jobs full.tasks full.setting.horizon ≤ most_jobs
unfolding full job_count
no_job = omega arith

within : WithinLimits full
unfolding full
within =
    let N = length-replicate most_tasks one_tick in
    let M = length-replicate most_records no_record in
    record {
      setting = record { cores = (omega arith, omega arith); horizon = (omega arith, omega arith) };
      task_total = (omega arith, omega arith);
      tasks = λ i h. rw (get_or-replicate most_tasks i one_tick no_task (omega arith)) in_range;
      job_total = no_job;
      record_total = omega arith;
    }

zeros : Fits (record_numbers no_record)
zeros =
    fits_cons (omega arith) (fits_cons (omega arith) (fits_cons (omega arith)
    (fits_cons (omega arith) (fits_cons (omega arith) (fits_cons (omega arith) fits_nil)))))

fits : (k : ℕ) → IsRecord full k → RecordFits (rec full k)
unfolding full
fits k h =
    let M = length-replicate most_records no_record in
    let e = get_or-replicate most_records k no_record no_record (omega arith) in
    subst (λ x. RecordFits x) (sym e) zeros.at

size : length (bytes full) ≡ longest_file
unfolding full
size =
    let N = length-replicate most_tasks one_tick in
    let M = length-replicate most_records no_record in
    let l = length-bytes full in
    omega arith

pub longest_attained : (b : List ℕ) × (ρ : Run) × (read b ≡ whole ρ) × (length b ≡ longest_file)
longest_attained = (bytes full, full, read_back full within fits, size)
