-- Document 02, request 5: N times a job's wait from ready to start is at most the sum of the lengths of all other records. Of every run in
-- which no core idles while a job waits, whatever goes first; a run that obeys all rules is one. Assumes nothing.
use Prim.Native.Nat.{ℕ, zero, suc, ◌+◌, ◌-◌, ◌≤◌, max}
use mathlib.Core.Path.{◌≡◌}
use native.Mathlib.Omega.{arith}
use lib.ListN.{length}
use Rattle.sorting.specs.Sorted.{up_to}
use Rattle.model.specs.Model.{Run, IsRecord, rec, ready, length_of}
use Rattle.model.specs.Rules.{Start, Length, Waits, NoIdling, Turn}
use Rattle.waittheory.specs.WaitBound.{wait_of, others, WaitBounded, greatest_of, WaitBoundedByTimes}
use Rattle.waittheory.proofs.Sums.{total, total_swap, total_const, total_mono, total_but, total_but_mono, unit, unit_under, count_total}
use Rattle.waittheory.proofs.BusyCores.{runs_at, says_runs_at, n_run}

module _ (ρ : Run) (k : ℕ) where
  -- 1 where the record runs, and 0 where it does not
  abbrev runs : ℕ → ℕ
  runs t = unit (runs_at ρ t k)

  -- Of n instants from i on a record runs at no more than are left of it then, ..
  abbrev left : ℕ → ℕ
  left i = (rec ρ k).end - max (rec ρ k).start i

  ticks_left : (i n : ℕ) → total runs (up_to i n) ≤ left i
  ticks_left i zero = omega arith
  ticks_left i (suc n) =
      let ih = ticks_left (suc i) n in
      let first = unit_under (says_runs_at ρ i k) (left i - left (suc i)) (λ r. omega (arith, r.0, r.1)) in
      omega arith

  -- .. which is no more than its length.
  ticks : (i n : ℕ) → total runs (up_to i n) ≤ length_of ρ k
  ticks i n = omega (arith, ticks_left i n)

module _ (ρ : Run) (I : NoIdling ρ) (k : ℕ) (h : IsRecord ρ k) where
  -- While k waits, no fewer than N of the others run.
  others_run : (t : ℕ) → Waits ρ k t → ρ.setting.cores ≤ total (λ j. runs ρ j t) (others ρ k)
  others_run t w =
      let alone = unit_under (says_runs_at ρ t k) 0 (λ r. absurd (omega (arith, r.0, w.1))) in
      omega (
        arith,
        n_run ρ t (I k h t w),
        count_total (runs_at ρ t) (length ρ.records),
        total_but (λ j. runs ρ j t) (length ρ.records) k h,
      )

  pub wait_bounded : WaitBounded ρ k
  wait_bounded =
      let r : ℕ = ready ρ k in
      let m : ℕ = wait_of ρ k in
      let N : ℕ = ρ.setting.cores in
      omega (
        arith,
        total_const N r m,
        total_mono (λ t. N) (λ t. total (λ j. runs ρ j t) (others ρ k)) r m (λ t p q. others_run t (p, omega arith)),
        total_swap (λ t j. runs ρ j t) (up_to r m) (others ρ k),
        total_but_mono (λ j. total (runs ρ j) (up_to r m)) (length_of ρ) (length ρ.records) k h (λ j l. ticks ρ j r m),
      )

  -- the same with the greatest times in place of the lengths
  pub wait_bounded_by_times : Length ρ → WaitBoundedByTimes ρ k
  wait_bounded_by_times L =
      omega (arith, wait_bounded, total_but_mono (length_of ρ) (greatest_of ρ) (length ρ.records) k h (λ j l. (L j l).2))

-- The wait is all the time from ready to start, since no job starts before it is ready, and with its own length it is all the time to its end.
module _ (ρ : Run) (S : Start ρ) (T : Turn ρ) (k : ℕ) (h : IsRecord ρ k) where
  pub ready_and_wait : ready ρ k + wait_of ρ k ≡ (rec ρ k).start
  unfolding ready
  ready_and_wait = omega (arith, S k h, T k h)

  pub wait_and_length : Length ρ → ready ρ k + wait_of ρ k + length_of ρ k ≡ (rec ρ k).end
  wait_and_length L = omega (arith, ready_and_wait, (L k h).0)
