-- The times of a record, whose job exists: they fit in four bytes, and put into its row they are the run's. Assumes nothing.
use Prim.Native.Nat.{ℕ, ◌+◌, ◌*◌, ◌-◌, ◌≤◌, ◌<◌, max}
use mathlib.Core.Path.{◌≡◌, refl, sym, ◌∙◌, ap}
use mathlib.Core.List.{List, [], ◌∷◌}
use native.Mathlib.Omega.{arith}
use lib.ListN.{length, get_or, take, drop}
use Rattle.model.specs.declared.task.Task.{Task}
use Rattle.model.specs.Model.{Run, WithinLimits, TaskInRange, IsRecord, rec, task_of, arrival, deadline, due, rank, ready}
use Rattle.model.specs.Rules.{Jobs}
use Rattle.model.proofs.Jobs.{Good}
use Rattle.carrytheory.proofs.Recorded.{record_exists}
use Rattle.carrytheory.proofs.Preceding.{first_alone, not_first, record_before}
use Rattle.carrytheory.proofs.Readiness.{ready_alone, ready_after}
use Rattle.table.specs.Table.{Lent, Rows, PutRow, recorded, row, earliest, latest}
use Rattle.table.proofs.LentLaws.{lent_fewer, rows_with}
use Rattle.table.proofs.OneRow.{put_keeps}
use Rattle.times.specs.declared.Stage.{Stage}
use Rattle.times.specs.declared.Stage.TheVariants.{Release, Length, Order}
use Rattle.times.specs.Times.{begins, up_to, KeptFrom}

-- a record of a run that obeys rule 1
module _ (σ : Run) (W : WithinLimits σ) (J : Jobs σ) (k : ℕ) (h : IsRecord σ k) where
  good : Good σ.tasks
  good i l = (W.tasks i l).period.0

  -- its task is one of the run's, and its job exists
  pub task_below : (rec σ k).task < length σ.tasks
  task_below = (record_exists σ J good k h).0

  arrives : arrival (task_of σ k) (rec σ k).job < σ.setting.horizon
  arrives = (record_exists σ J good k h).1

  in_range : TaskInRange (task_of σ k)
  in_range = W.tasks (rec σ k).task task_below

  -- how large its times are
  small : (arrival (task_of σ k) (rec σ k).job ≤ 1000000) × (deadline (task_of σ k) (rec σ k).job ≤ 2000000) × ((task_of σ k).jitter ≤ 1000000)
  small =
      let a = arrives in
      let r = in_range in
      let s = W.setting.horizon in
      (omega arith, omega arith, omega arith)

-- When a record is ready
-- ----------------------
module _ {σ : Run} {t : List ℕ} {n k : ℕ} (J : Jobs σ) (L : Lent recorded σ t n) (l : k < n) where
  range : IsRecord σ k
  range = omega (arith, L.count)

  is_job : get_or t (1 * n + k) 0 ≡ (rec σ k).job
  is_job = L.number 1 k (omega arith) l

  is_release : get_or t (2 * n + k) 0 ≡ (rec σ k).release
  is_release = L.number 2 k (omega arith) l

  -- its task's first job
  pub ready_first : get_or t (1 * n + k) 0 ≡ 0 → get_or t (2 * n + k) 0 ≡ ready σ k
  ready_first z = is_release ∙ sym (ready_alone σ k (first_alone σ k (sym is_job ∙ z)))

  -- one after the record before
  pub ready_later : ¬ (get_or t (1 * n + k) 0 ≡ 0) → max (get_or t (2 * n + k) 0) (get_or t (4 * n + k - 1) 0) ≡ ready σ k
  ready_later f =
      let job : 1 ≤ (rec σ k).job = omega (arith, f, is_job) in
      let one : 1 ≤ k = not_first σ J k range job in
      let before = record_before σ J k (k - 1) range job (omega arith) in
      let place : 4 * n + k - 1 ≡ 4 * n + (k - 1) = omega arith in
      (λ κ. max (is_release κ) ((ap (λ x. get_or t x 0) place ∙ L.number 4 (k - 1) (omega arith) (omega arith)) κ))
      ∙ sym (ready_after σ k (k - 1) before)

-- the numbers that a stage puts into the row of a record with this task and job, which is ready at an instant
unfoldable pub filled : Stage → Task → ℕ → ℕ → List ℕ
filled Release τ job at = arrival τ job ∷ (arrival τ job + τ.jitter) ∷ []
filled Length τ job at = τ.least ∷ τ.greatest ∷ []
filled Order τ job at = deadline τ job ∷ deadline τ job ∷ at ∷ []

-- it begins past what stands in a file
pub past : (s : Stage) → recorded ≤ begins s
past Release = omega arith
past Length = omega arith
past Order = omega arith

-- record k in a table whose first rows are there, and its task
module _ (s : Stage) {σ : Run} {t : List ℕ} {n k : ℕ} {τ : Task} (J : Jobs σ) (R : Rows (begins s) (up_to s) k σ t n) (e : task_of σ k ≡ τ) (l : k < n) where
  pub L : Lent recorded σ t n
  L = lent_fewer R.lent recorded (past s)

  abbrev job : ℕ
  job = get_or t (1 * n + k) 0

  has_job : (rec σ k).job ≡ job
  has_job = sym (L.number 1 k (omega arith) l)

  -- what is computed fits
  pub times_fit : (arrival τ job ≤ 1000000) × (deadline τ job ≤ 2000000) × (τ.jitter ≤ 1000000)
  times_fit = rw (has_job, e) at (small σ L.limits J k (omega (arith, L.count)))

  -- it is what stands in the row
  part : (s : Stage) → filled s (task_of σ k) (rec σ k).job (ready σ k) ≡ take (up_to s - begins s) (drop (begins s) (row σ k))
  unfolding earliest latest due rank filled
  part Release = refl
  part Length = refl
  part Order = refl

  wide : (s : Stage) → up_to s ≡ begins s + length (filled s τ job (ready σ k))
  unfolding filled
  wide Release = refl
  wide Length = refl
  wide Order = refl

  pub times_on : {vs t' : List ℕ} (r : Stage) → s ≡ r → vs ≡ filled r τ job (ready σ k) → PutRow n k (begins r) vs t t'
      → Rows (begins s) (up_to s) (k + 1) σ t' n × KeptFrom (up_to s * n) t t'
  times_on {vs} {t'} r q d P =
      let same : filled s τ job (ready σ k) ≡ take (up_to s - begins s) (drop (begins s) (row σ k)) = rw (← e, ← has_job) (part s) in
      let put : PutRow n k (begins s) (filled s τ job (ready σ k)) t t' = rw (q, ← d) P in
      (rows_with R (up_to s - begins s) l put same (wide s), record { kept = put_keeps (up_to s) l (omega (arith, wide s)) put })
