-- Document 02, request 5, of files: the waits of the run that an accepted file tells. Assumes nothing.
use Prim.Native.Nat.{ℕ, ◌+◌, ◌≤◌}
use mathlib.Core.Path.{◌≡◌, ap}
use mathlib.Core.List.{List}
use Rattle.model.specs.Model.{IsRecord, rec, job_of, ready, length_of}
use Rattle.model.specs.Rules.{Obeys, rule3, rule4, rule8, rule9}
use Rattle.model.specs.Refusals.{run_in}
use Rattle.model.specs.Compute.Verdict.{check_of, check}
use Rattle.model.proofs.Demand2.{accepted_exactly_if_obeyed}
use Rattle.model.proofs.Refusals.{accepted_reads}
use Rattle.waittheory.specs.WaitBound.{wait_of, wait_times_N, others, WaitBounded, greatest_times, WaitBoundedByTimes, OneSet}
use Rattle.waittheory.proofs.BoundedWait.{wait_bounded, wait_bounded_by_times, ready_and_wait, wait_and_length}
use Rattle.waittheory.proofs.OneSet.{bounded_by_the_set}

module _ (b : List ℕ) (accepted : (check b).answer ≤ 2) where
  pub file_obeys : Obeys (run_in b)
  unfolding check
  file_obeys = (accepted_exactly_if_obeyed (run_in b)).0 (rw (ap check_of (accepted_reads b accepted)) at accepted)

  module _ (k : ℕ) (h : IsRecord (run_in b) k) where
    pub file_waits : WaitBounded (run_in b) k
    file_waits = wait_bounded (run_in b) (file_obeys rule8) k h

    pub file_waits_by_times : WaitBoundedByTimes (run_in b) k
    file_waits_by_times = wait_bounded_by_times (run_in b) (file_obeys rule8) k h (file_obeys rule4)

    pub file_ready_and_wait : ready (run_in b) k + wait_of (run_in b) k ≡ (rec (run_in b) k).start
    file_ready_and_wait = ready_and_wait (run_in b) (file_obeys rule3) (file_obeys rule9) k h

    pub file_wait_and_length : ready (run_in b) k + wait_of (run_in b) k + length_of (run_in b) k ≡ (rec (run_in b) k).end
    file_wait_and_length = wait_and_length (run_in b) (file_obeys rule3) (file_obeys rule9) k h (file_obeys rule4)

-- Of two accepted files of one set each bounds the waits of the other by its greatest times.
pub files_of_one_set : (b b' : List ℕ) → (check b).answer ≤ 2 → (check b').answer ≤ 2 → OneSet (run_in b) (run_in b') → (k : ℕ) → IsRecord (run_in b) k
    → (job_of (rec (run_in b) k) ≡ job_of (rec (run_in b') k)) × (wait_times_N (run_in b) k ≤ greatest_times (run_in b') (others (run_in b') k))
files_of_one_set b b' a a' S = bounded_by_the_set (run_in b) (run_in b') S (file_obeys b a) (file_obeys b' a')
