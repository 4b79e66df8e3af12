-- A file is refused, or it tells a run: one law for each, and what is known of the head of a file that tells a run. Assumes nothing.
use Rattle.std.specs.Prelude.{Result, Ok, Err}
use Prim.Native.Nat.{ℕ, ◌+◌, ◌*◌, ◌≤◌, ◌<◌}
use mathlib.Core.Path.{◌≡◌, refl, sym, ◌∙◌, ap, subst}
use mathlib.Core.Bool.{true, false, true≢false}
use mathlib.Core.List.{List}
use lib.ListN.{length, get_or}
use native.Mathlib.Omega.{arith}
use Rattle.model.specs.Model.{Run, WithinLimits, most_tasks, most_records, task, rec, no_task, no_record}
use Rattle.model.specs.File.{Read, refused, whole, read, num, setting_at, task_at, record_at, entries, tasks_in, run_at, tasks_place, records_place, record_place, task_size, record_size, size_of}
use Rattle.model.proofs.Reading.{read_is, read_limits, read_length, length-entries, entries_at}
use Rattle.runfile.specs.TasksThere.{TasksThere}
use Rattle.model.specs.declared.refusal.Refusal.{Refusal}
use Rattle.model.specs.Answers.{numbered, refusal_numbers}
use Rattle.openfile.specs.declared.head.Head.{Head}
use Rattle.openfile.specs.Head.{head_of, opened_of, Tells, run_of, run_in}

pub ok≢err : {A B : Type 0} {x : A} {y : B} → ¬ (◌≡◌ {A = Result A B} (Ok x) (Err y))
ok≢err {A} {B} {x} {y} e = let z : true ≡ false = cc in true≢false z

pub whole_tells : (b : List ℕ) (h : Head) → Ok h ≡ opened_of (read b) → (ρ : Run) × Tells b h ρ
unfolding opened_of
whole_tells b h = go (read b) refl
  where
    go : (r : Read) → read b ≡ r → Ok h ≡ opened_of r → (ρ : Run) × Tells b h ρ
    go (refused ν i) q e = absurd (ok≢err e)
    go (whole ρ) q e = (ρ, record { reads = q; head = cc })

pub refused_tells : (b : List ℕ) (ν i : ℕ) → Err (ν, i) ≡ opened_of (read b) → read b ≡ refused ν i
unfolding opened_of
refused_tells b ν i = go (read b) refl
  where
    go : (r : Read) → read b ≡ r → Err (ν, i) ≡ opened_of r → read b ≡ refused ν i
    go (refused μ k) q e = let p : ◌≡◌ {A = ℕ × ℕ} (ν, i) (μ, k) = cc in q ∙ (λ κ. refused (sym p κ).0 (sym p κ).1)
    go (whole ρ) q e = absurd (ok≢err (sym e))

-- the same of what the program says of a file
module _ (b : List ℕ) {o : Result Head Refusal} (e : numbered o ≡ opened_of (read b)) where
  pub ok_tells : {h : Head} → o ≡ Ok h → (ρ : Run) × Tells b h ρ
  ok_tells {h} q = whole_tells b h (ap numbered (sym q) ∙ e)

  pub err_tells : {r : Refusal} → o ≡ Err r → read b ≡ refused (refusal_numbers r).0 (refusal_numbers r).1
  err_tells {r} q = refused_tells b _ _ (ap numbered (sym q) ∙ e)

-- the run that a file tells is the one run of which that is so
pub run_in_is : {b : List ℕ} {h : Head} {ρ : Run} → Tells b h ρ → run_in b ≡ ρ
unfolding run_in
run_in_is T = ap run_of T.reads

pub tells_own : {b : List ℕ} {h : Head} → (ρ : Run) × Tells b h ρ → Tells b h (run_in b)
tells_own {b} {h} (ρ, T) = subst (Tells b h) (sym (run_in_is T)) T

-- What is known of a head
-- -----------------------
module _ {h : Head} (ρ : Run) (e : h ≡ head_of ρ) where
  pub head_setting : h.setting ≡ ρ.setting
  head_setting = ap (λ g. g.setting) e

  pub head_task_count : h.tasks ≡ length ρ.tasks
  head_task_count = ap (λ g. g.tasks) e

  pub head_count : h.records ≡ length ρ.records
  head_count = ap (λ g. g.records) e

-- and of the file that it is of
module _ {b : List ℕ} {h : Head} {ρ : Run} (T : Tells b h ρ) where
  pub tells_limits : WithinLimits ρ
  tells_limits = read_limits b ρ T.reads

  pub tells_setting : h.setting ≡ ρ.setting
  tells_setting = head_setting ρ T.head

  pub tells_task_count : h.tasks ≡ length ρ.tasks
  tells_task_count = head_task_count ρ T.head

  pub tells_count : h.records ≡ length ρ.records
  tells_count = head_count ρ T.head

  pub tells_place : h.records_at ≡ records_place h.tasks + 4
  tells_place =
      let p : h.records_at ≡ record_place ρ 0 = ap (λ g. g.records_at) T.head in
      omega (arith, tells_task_count)

  pub tells_few : (1 ≤ h.tasks) × (h.tasks ≤ most_tasks) × (h.records ≤ most_records)
  tells_few =
      let n = tells_task_count in
      let m = tells_count in
      let (some-task, few_tasks) = tells_limits.task_total in
      (omega arith, omega arith, omega (arith, tells_limits.record_total))

  pub tells_size : size_of h.tasks h.records ≡ length b
  tells_size = omega (arith, read_length b ρ T.reads, tells_task_count, tells_count)

  -- the bytes of its tasks are there
  pub tells_room : TasksThere b h.tasks
  tells_room = let e = tells_size in omega arith

  -- what stands in the file is the run's
  pub said_setting : setting_at b 4 ≡ ρ.setting
  unfolding run_at
  said_setting = ap (λ r. r.setting) (read_is b ρ T.reads)

  said_tasks : tasks_in b (num b tasks_place) ≡ ρ.tasks
  unfolding run_at
  said_tasks = ap (λ r. r.tasks) (read_is b ρ T.reads)

  said_count : num b tasks_place ≡ h.tasks
  said_count = sym (length-entries (task_at b) task_size (tasks_place + 4) (num b tasks_place)) ∙ ap length said_tasks ∙ sym tells_task_count

  pub tells_tasks : ρ.tasks ≡ tasks_in b h.tasks
  tells_tasks = sym said_tasks ∙ ap (tasks_in b) said_count

  pub tells_task : (i : ℕ) → i < h.tasks → task ρ.tasks i ≡ task_at b (tasks_place + 4 + task_size * i)
  tells_task i l = ap (λ τs. task τs i) tells_tasks ∙ entries_at (task_at b) task_size (tasks_place + 4) h.tasks i no_task l

  said_records : entries (record_at b) record_size (records_place (num b tasks_place) + 4) (num b (records_place (num b tasks_place))) ≡ ρ.records
  unfolding run_at
  said_records = ap (λ r. r.records) (read_is b ρ T.reads)

  pub tells_records : ρ.records ≡ entries (record_at b) record_size h.records_at h.records
  tells_records =
      let m : ℕ = num b (records_place (num b tasks_place)) in
      let place : records_place (num b tasks_place) + 4 ≡ h.records_at = ap (λ n. records_place n + 4) said_count ∙ sym tells_place in
      let long = length-entries (record_at b) record_size (records_place (num b tasks_place) + 4) m in
      let many : m ≡ h.records = sym long ∙ ap length said_records ∙ sym tells_count in
      sym said_records ∙ (λ κ. entries (record_at b) record_size (place κ) (many κ))

  pub tells_record : (k : ℕ) → k < h.records → rec ρ k ≡ record_at b (h.records_at + record_size * k)
  tells_record k l = ap (λ xs. get_or xs k no_record) tells_records ∙ entries_at (record_at b) record_size h.records_at h.records k no_record l
