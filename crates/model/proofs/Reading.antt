-- What a file that is not refused tells. Assumes nothing.
use Rattle.std.specs.Prelude.{None, Option, Some}
use Prim.Native.Nat.{ℕ, zero, suc, ◌+◌, ◌*◌, ◌≤◌, ◌<◌}
use mathlib.Core.Path.{◌≡◌, refl, sym, subst, ◌∙◌, ap}
use mathlib.Core.Logic.{◌↔◌}
use mathlib.Core.Bool.{Bool, true, false, true≢false, false≢true}
use mathlib.Core.List.{List, [], ◌∷◌, ◌++◌, map}
use native.Mathlib.Numerals.{add-one}
use native.Mathlib.Omega.{arith}
use lib.ListN.{length, get_or}
use Rattle.base.proofs.Test.{says_leb}
use Rattle.model.specs.declared.setting.Setting.{Setting}
use Rattle.model.specs.declared.task.Task.{Task}
use Rattle.model.specs.Model.{Run, WithinLimits, SettingInRange, most_tasks, most_jobs, most_records, total_jobs, rec}
use Rattle.model.specs.File.{Read, refused, whole, num, setting_at, task_at, record_at, entries, task_size, record_size, tasks_place, records_place, size_of, longest_file, record_place, gate, gate_task, tasks_in, run_at, read_records, read_tasks, read}
use Rattle.model.specs.Compute.Limits.{bad_task}
use Rattle.model.proofs.Limits.{says_within, says_setting, tasks_fine}

pub whole≢refused : {ρ : Run} {ν i : ℕ} → ¬ (refused ν i ≡ whole ρ)
whole≢refused {ρ} {ν} {i} e = let z : true ≡ false = cc in true≢false z

-- the gates let a run through exactly if the test passes
pub gate_whole : (ν : ℕ) (t : Bool) (r : Read) (ρ : Run) → (gate ν t r ≡ whole ρ) ↔ ((t ≡ true) × (r ≡ whole ρ))
unfolding gate
gate_whole ν true r ρ = (λ e. (refl, e), λ h. h.1)
gate_whole ν false r ρ = (λ e. absurd (whole≢refused e), λ h. absurd (false≢true h.0))

pub gate_task_whole : (o : Option ℕ) (r : Read) (ρ : Run) → (gate_task o r ≡ whole ρ) ↔ ((o ≡ None) × (r ≡ whole ρ))
unfolding gate_task
gate_task_whole None r ρ = (λ e. (refl, e), λ h. h.1)
gate_task_whole (Some i) r ρ = (λ e. absurd (whole≢refused e), λ h. let z : true ≡ false = cc h.0 in absurd (true≢false z))

module _ {A : Type 0} (entry : ℕ → A) (size : ℕ) where
  pub length-entries : (i n : ℕ) → length (entries entry size i n) ≡ n
  length-entries i zero = refl
  length-entries i (suc n) = ap suc (length-entries (i + size) n)

  pub entries_at : (i n k : ℕ) (d : A) → k < n → get_or (entries entry size i n) k d ≡ entry (i + size * k)
  entries_at i zero k d h = absurd (omega arith)
  entries_at i (suc n) zero d h = ap entry (omega arith)
  entries_at i (suc n) (suc k) d h = entries_at (i + size) n k d (omega arith) ∙ ap entry (omega arith)

  entries_last : (i n : ℕ) → entries entry size i (suc n) ≡ entries entry size i n ++ (entry (i + size * n) ∷ [])
  entries_last i zero = ap (λ k. entry k ∷ []) (omega arith)
  entries_last i (suc n) =
      ap (λ l. entry i ∷ l) (entries_last (i + size) n ∙ ap (λ k. entries entry size (i + size) n ++ (entry k ∷ [])) (omega arith))

  -- one entry more
  pub entries_on : (i n : ℕ) → entries entry size i (n + 1) ≡ entries entry size i n ++ (entry (i + size * n) ∷ [])
  entries_on i n = rw add-one (entries_last i n)

-- one part of each entry, as a column
pub column_entries : {A : Type 0} (b : List ℕ) (entry : ℕ → A) (part : A → ℕ) (off size : ℕ) → ((j : ℕ) → part (entry j) ≡ num b (j + off)) → (i n : ℕ)
    → entries (num b) size (i + off) n ≡ map part (entries entry size i n)
column_entries b entry part off size same i zero = refl
column_entries b entry part off size same i (suc n) =
    let p = sym (same i) in
    let z : i + off + size ≡ i + size + off = omega arith in
    let q = ap (λ k. entries (num b) size k n) z ∙ column_entries b entry part off size same (i + size) n in
    λ κ. p κ ∷ q κ

-- what is known of a run that a file tells
record Tells (b : List ℕ) (ρ : Run) : Type 0 where
  limits : WithinLimits ρ
  size : length b ≡ size_of (length ρ.tasks) (length ρ.records)
  records : (k : ℕ) → k < length ρ.records → rec ρ k ≡ record_at b (record_place ρ k)

module _ (b : List ℕ) where
  abbrev n : ℕ
  n = num b tasks_place

  abbrev τs : List Task
  τs = entries (task_at b) task_size (tasks_place + 4) n

  module _ (ρ : Run) where
    records_tell : (σ : Setting) (i : ℕ) → read_records b σ τs i ≡ whole ρ
        → (num b i ≤ most_records) × (length b ≡ i + 4 + record_size * num b i) × (run_at b σ τs (i + 4) (num b i) ≡ ρ)
    unfolding read_records
    records_tell σ i e =
        let (t₁, e₁) = (gate_whole _ _ _ ρ).0 e in
        let (t₂, e₂) = (gate_whole _ _ _ ρ).0 e₁ in
        let (t₃, e₃) = (gate_whole _ _ _ ρ).0 e₂ in
        let (t₄, e₄) = (gate_whole _ _ _ ρ).0 e₃ in
        let l = (says_leb (i + 4 + record_size * num b i) (length b)).sound t₃ in
        let m = (says_leb (length b) (i + 4 + record_size * num b i)).sound t₄ in
        ((says_leb (num b i) most_records).sound t₂, omega arith, cc)

    tasks_tell : (σ : Setting) → read_tasks b σ ≡ whole ρ
        → (1 ≤ n) × (n ≤ most_tasks) × (bad_task τs ≡ None) × (total_jobs τs σ.horizon ≤ most_jobs) × (read_records b σ τs (records_place n) ≡ whole ρ)
    unfolding read_tasks
    tasks_tell σ e =
        let (t₁, e₁) = (gate_whole _ _ _ ρ).0 e in
        let (t₂, e₂) = (gate_whole _ _ _ ρ).0 e₁ in
        let (t₃, e₃) = (gate_whole _ _ _ ρ).0 e₂ in
        let (t₄, e₄) = (gate_task_whole _ _ ρ).0 e₃ in
        let (t₅, e₅) = (gate_whole _ _ _ ρ).0 e₄ in
        let c = (says_within 1 most_tasks n).sound t₂ in
        (c.0, c.1, t₄, (says_leb (total_jobs τs σ.horizon) most_jobs).sound t₅, e₅)

    setting_tells : read b ≡ whole ρ → SettingInRange (setting_at b 4) × (read_tasks b (setting_at b 4) ≡ whole ρ)
    unfolding read
    setting_tells e =
        let (t₁, e₁) = (gate_whole _ _ _ ρ).0 e in
        let (t₂, e₂) = (gate_whole _ _ _ ρ).0 e₁ in
        let (t₃, e₃) = (gate_whole _ _ _ ρ).0 e₂ in
        let (t₄, e₄) = (gate_whole _ _ _ ρ).0 e₃ in
        ((says_setting (setting_at b 4)).sound t₄, e₄)

    -- said first of the run that the last gate lets through, which is ρ
    tells : read b ≡ whole ρ → Tells b ρ
    unfolding run_at
    tells e =
        let i : ℕ = records_place n in
        let (in_range, e₁) = setting_tells e in
        let (some-task, few_tasks, none-bad, few_jobs, e₂) = tasks_tell (setting_at b 4) e₁ in
        let (few_records, full, q) = records_tell (setting_at b 4) i e₂ in
        let N = length-entries (task_at b) task_size (tasks_place + 4) n in
        let M = length-entries (record_at b) record_size (i + 4) (num b i) in
        let at = entries_at (record_at b) record_size (i + 4) (num b i) in
        subst (Tells b) q
        (record {
          limits =
              record {
                setting = in_range;
                task_total = (omega arith, omega arith);
                tasks = (tasks_fine τs).0 none-bad;
                job_total = few_jobs;
                record_total = omega arith;
              };
          size = omega arith;
          records = λ k h. at k _ (omega arith) ∙ ap (λ l. record_at b (records_place l + 4 + record_size * k)) (sym N);
        })

    -- the run that a file tells, entry by entry
    pub read_is : read b ≡ whole ρ → run_at b (setting_at b 4) (tasks_in b (num b tasks_place)) (records_place (num b tasks_place) + 4) (num b (records_place (num b tasks_place))) ≡ ρ
    read_is e =
        let (in_range, e₁) = setting_tells e in
        let (some-task, few_tasks, none-bad, few_jobs, e₂) = tasks_tell (setting_at b 4) e₁ in
        (records_tell (setting_at b 4) (records_place n) e₂).2

    pub read_limits : read b ≡ whole ρ → WithinLimits ρ
    read_limits e = (tells e).limits

    pub read_length : read b ≡ whole ρ → length b ≡ size_of (length ρ.tasks) (length ρ.records)
    read_length e = (tells e).size

    pub read_records_lem : read b ≡ whole ρ → (k : ℕ) → k < length ρ.records → rec ρ k ≡ record_at b (record_place ρ k)
    read_records_lem e = (tells e).records

    pub longest : read b ≡ whole ρ → length b ≤ longest_file
    longest e =
        let L = read_limits e in
        let l = read_length e in
        omega (arith, L.task_total.1, L.record_total)
