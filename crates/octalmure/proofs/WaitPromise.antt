-- What Octalmure promises about waiting: request 5, of every file that octalmure_check accepts. Every statement is over the call's own contract,
-- as in Promise.antt; the words are those of crates/waittheory/specs. Assumes nothing.
use Prim.Native.Nat.{ℕ, ◌+◌, ◌≤◌}
use mathlib.Core.Path.{◌≡◌}
use mathlib.Core.List.{List}
use Rattle.model.specs.Model.{IsRecord, rec, job_of, ready, length_of}
use Rattle.model.specs.File.{whole, read}
use Rattle.model.specs.Refusals.{run_in}
use Rattle.model.proofs.Refusals.{accepted_reads}
use Rattle.waittheory.specs.WaitBound.{wait_of, wait_times_N, others, WaitBounded, greatest_times, WaitBoundedByTimes, OneSet}
use Rattle.waittheory.proofs.AcceptedFile.{file_waits, file_waits_by_times, file_ready_and_wait, file_wait_and_length, files_of_one_set}
use Rattle.octalmure.proofs.Promise.{Checks, call_accepts}

module _ {b a a' : List ℕ} {r : ℕ} (C : Checks b a r a') (accepted : r ≤ 2) where
  -- The file tells a run.
  pub tells_run : read b ≡ whole (run_in b)
  tells_run = accepted_reads b (call_accepts C accepted)

  module _ (k : ℕ) (h : IsRecord (run_in b) k) where
    -- N times a job's wait from ready to start is at most the sum of the lengths of all other records, ..
    pub check_bounds_wait : WaitBounded (run_in b) k
    check_bounds_wait = file_waits b (call_accepts C accepted) k h

    -- .. so that it is at most the sum of their greatest times; ..
    pub check_bounds_by_times : WaitBoundedByTimes (run_in b) k
    check_bounds_by_times = file_waits_by_times b (call_accepts C accepted) k h

    -- .. and the wait is all the time from ready to start; with the job's own length, to its end.
    pub all_of_the_wait : ready (run_in b) k + wait_of (run_in b) k ≡ (rec (run_in b) k).start
    all_of_the_wait = file_ready_and_wait b (call_accepts C accepted) k h

    pub wait_then_length : ready (run_in b) k + wait_of (run_in b) k + length_of (run_in b) k ≡ (rec (run_in b) k).end
    wait_then_length = file_wait_and_length b (call_accepts C accepted) k h

-- Of two accepted files b and b' of one set, that is of the same setting and the same tasks: record k is the same job in both, and N times its
-- wait in b is at most the sum of the greatest times of all other records of b'.
pub same_set_bounds : {b a a' b' c c' : List ℕ} {r r' : ℕ} → Checks b a r a' → r ≤ 2 → Checks b' c r' c' → r' ≤ 2 → OneSet (run_in b) (run_in b') → (k : ℕ) → IsRecord (run_in b) k
    → (job_of (rec (run_in b) k) ≡ job_of (rec (run_in b') k)) × (wait_times_N (run_in b) k ≤ greatest_times (run_in b') (others (run_in b') k))
same_set_bounds C l D m = files_of_one_set _ _ (call_accepts C l) (call_accepts D m)
