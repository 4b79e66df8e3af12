-- Widening of files: a file that is accepted, with wider tasks within the limits, is told what it was told before. Assumes that the
-- file is a list of bytes.
use Prim.Native.Nat.{ℕ, suc, ◌≤◌, ◌<◌}
use mathlib.Core.Path.{◌≡◌, refl, sym, ◌∙◌, ap}
use mathlib.Core.List.{List}
use lib.ListN.{length}
use Rattle.model.specs.declared.task.Task.{Task}
use Rattle.model.specs.Model.{Run, WithinLimits, TaskInRange, task}
use Rattle.model.specs.File.{Bytes, whole, read, bytes}
use Rattle.model.specs.Widen.{Wider, none_left, wider, with_tasks}
use Rattle.model.specs.Compute.Verdict.{verdict, check_of, check}
use Rattle.model.proofs.Demand2.{accepted_exactly_if_obeyed}
use Rattle.model.proofs.Reading.{read_limits}
use Rattle.model.proofs.RoundTrip.{read_back}
use Rattle.model.proofs.FiveFit.{record_fits}
use Rattle.carrytheory.proofs.WidenedRun.{same_counts, widened_verdict}

as_many : {τs σs : List Task} → Wider τs σs → length σs ≡ length τs
as_many none_left = refl
as_many (wider w v) = ap suc (as_many v)

module _ (b : List ℕ) (B : Bytes b) (ρ : Run) (reads : read b ≡ whole ρ) where
  module _ (σs : List Task) (v : Wider ρ.tasks σs) (within : (i : ℕ) → i < length σs → TaskInRange (task σs i)) where
    wider_limits : WithinLimits (with_tasks ρ σs)
    wider_limits =
        let L = read_limits b ρ reads in
        record {
          setting = L.setting;
          task_total = rw (as_many v) L.task_total;
          tasks = within;
          job_total = rw (same_counts v ρ.setting.horizon) L.job_total;
          record_total = L.record_total;
        }

    -- The file with the wider tasks is told the same: the same answer, the same number of late records, the same first one.
    pub widened_file : (check b).answer ≤ 2 → check (bytes (with_tasks ρ σs)) ≡ check b
    unfolding check
    widened_file accepted =
        let told : check b ≡ verdict ρ = ap check_of reads in
        let O = (accepted_exactly_if_obeyed ρ).0 (rw told at accepted) in
        ap check_of (read_back (with_tasks ρ σs) wider_limits (record_fits b B ρ reads)) ∙ widened_verdict ρ σs v O ∙ sym told
