-- The run that is imported: its records are those of the lines, in rising order of task and job, and its file is a whole run file.
-- Assumes nothing.
use Prim.Native.Nat.{ℕ, ◌<◌}
use mathlib.Core.Path.{◌≡◌, ap}
use mathlib.Core.Logic.{◌⊎◌, inl, inr}
use mathlib.Core.Bool.{Bool, ◌&&◌}
use mathlib.Core.List.{List}
use native.Mathlib.Omega.{arith}
use native.Mathlib.Decide.{dec_lt}
use lib.Dec.{eqb}
use Rattle.base.proofs.Test.{Says, says_or, says_and, says_ltb, says_eqb, says_map}
use Rattle.model.specs.declared.record.Record.{Record}
use Rattle.model.specs.Model.{Run, Job, WithinLimits, IsRecord, rec, job_of, no_record}
use Rattle.model.specs.File.{RecordFits, bytes, whole, read}
use Rattle.model.proofs.RoundTrip.{read_back}
use Rattle.sorting.specs.Sorted.{SameEntries, Rises}
use Rattle.sorting.proofs.Entries.{same_sym, same_trans, same_length}
use Rattle.sorting.proofs.Only.{only_rising}
use Rattle.sorting.proofs.Rising.{rises_weaken, each_at}
use Rattle.sorting.proofs.Sorted.{sorted_same, sorted_rises, each_sorted}
use Rattle.exchange.specs.TextTable.{Taken}
use Rattle.exchange.specs.Import.{JobBefore, job_before, imported}

-- By task, then by job.
-- ---------------------
module _ (x y : Record) where
  pub says_job_before : Says (job_before x y) (JobBefore x y)
  unfolding job_before
  says_job_before = says_or (says_ltb x.task y.task) (says_and (says_eqb x.task y.task) (says_ltb x.job y.job))

  pub job_turn : JobBefore x y → ¬ JobBefore y x
  job_turn (inl h) (inl k) = omega arith
  job_turn (inl h) (inr (e, k)) = omega arith
  job_turn (inr (e, h)) (inl k) = omega arith
  job_turn (inr (e, h)) (inr (f, k)) = omega arith

  pub job_apart : JobBefore x y → ¬ (job_of x ≡ job_of y)
  job_apart (inl h) e = omega (arith, ap (λ (q : Job). q.0) e)
  job_apart (inr (f, h)) e = omega (arith, ap (λ (q : Job). q.1) e)

  -- of two jobs one goes before the other
  pub job_either : ¬ (job_of x ≡ job_of y) → JobBefore x y ⊎ JobBefore y x
  job_either f = go (dec_lt x.task y.task) (dec_lt y.task x.task) (dec_lt x.job y.job) (dec_lt y.job x.job)
    where
      go : Dec (x.task < y.task) → Dec (y.task < x.task) → Dec (x.job < y.job) → Dec (y.job < x.job) → JobBefore x y ⊎ JobBefore y x
      go (yes h) b c d = inl (inl h)
      go (no h) (yes k) c d = inr (inl k)
      go (no h) (no k) (yes i) d = inl (inr (omega (arith, h, k), i))
      go (no h) (no k) (no i) (yes j) = inr (inr (omega (arith, h, k), j))
      go (no h) (no k) (no i) (no j) =
          let a : x.task ≡ y.task = omega (arith, h, k) in
          let b : x.job ≡ y.job = omega (arith, i, j) in
          absurd (f (λ κ. (a κ, b κ)))

pub job_chain : (x y z : Record) → JobBefore x y → JobBefore y z → JobBefore x z
job_chain x y z (inl h) (inl k) = inl (omega arith)
job_chain x y z (inl h) (inr (e, k)) = inl (omega arith)
job_chain x y z (inr (e, h)) (inl k) = inl (omega arith)
job_chain x y z (inr (e, h)) (inr (f, k)) = inr (omega arith, omega arith)

-- One record is another.
-- ----------------------
pub same_record : Record → Record → Bool
same_record x y =
    eqb x.task y.task
    && (eqb x.job y.job && (eqb x.release y.release && (eqb x.start y.start && (eqb x.end y.end && eqb x.core y.core))))

pub says_same_record : (x y : Record) → Says (same_record x y) (x ≡ y)
unfolding same_record
says_same_record x y =
    says_map
    (λ (a, (b, (c, (d, (e, f))))). λ κ. record { task = a κ; job = b κ; release = c κ; start = d κ; end = e κ; core = f κ })
    (λ e. (
      ap (λ r. r.task) e,
      (ap (λ r. r.job) e, (ap (λ r. r.release) e, (ap (λ r. r.start) e, (ap (λ r. r.end) e, ap (λ r. r.core) e)))),
    ))
    (says_and (says_eqb _ _) (says_and (says_eqb _ _) (says_and (says_eqb _ _) (says_and (says_eqb _ _) (says_and (says_eqb _ _) (says_eqb _ _))))))

-- two lists of the same records, both in rising order, are one
pub one_order : {xs ys : List Record} → Rises JobBefore xs → Rises JobBefore ys → SameEntries xs ys → xs ≡ ys
one_order R S E = only_rising same_record says_same_record JobBefore job_turn R S E

-- The records.
-- ------------
module _ (ρ : Run) (xs : List Record) where
  -- they are exactly the lines' records
  pub imported_same : SameEntries xs (imported ρ xs).records
  unfolding imported
  imported_same = sorted_same job_before xs

  module _ (W : Taken xs) where
    -- and rise by task and job
    pub imported_rises : Rises JobBefore (imported ρ xs).records
    unfolding imported
    imported_rises = sorted_rises job_before says_job_before job_chain (rises_weaken job_either W.apart)

    -- no other list does
    pub imported_only : (ys : List Record) → Rises JobBefore ys → SameEntries xs ys → (imported ρ xs).records ≡ ys
    imported_only ys R E = one_order imported_rises R (same_trans (same_sym imported_same) E)

    pub imported_within : WithinLimits ρ → WithinLimits (imported ρ xs)
    unfolding imported
    imported_within L =
        record {
          setting = L.setting;
          task_total = L.task_total;
          tasks = L.tasks;
          job_total = L.job_total;
          record_total = omega (arith, W.few, same_length (sorted_same job_before xs));
        }

    pub imported_fits : (k : ℕ) → IsRecord (imported ρ xs) k → RecordFits (rec (imported ρ xs) k)
    unfolding imported
    imported_fits k h = each_at (each_sorted job_before W.fit) k no_record h

    -- a whole run file
    pub imported_reads : WithinLimits ρ → read (bytes (imported ρ xs)) ≡ whole (imported ρ xs)
    imported_reads L = read_back (imported ρ xs) (imported_within L) imported_fits
