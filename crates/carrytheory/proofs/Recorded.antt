-- The records of a run that obeys rule 1: each existing job has one, and only existing jobs do, in order. Assumes nothing.
use Prim.Native.Nat.{ℕ, zero, suc, ◌<◌, ◌≤◌}
use mathlib.Core.Path.{◌≡◌, refl, sym, subst, ◌∙◌, ap}
use mathlib.Core.List.{List, [], ◌∷◌, map}
use native.Mathlib.Omega.{arith}
use lib.ListN.{length, get_or, length-map}
use Rattle.model.specs.Model.{Run, Job, IsRecord, Exists, rec, task_of, task, job_of, existing, total_jobs, no_record}
use Rattle.model.specs.Rules.{Jobs}
use Rattle.carrytheory.proofs.Depends.{existing_rises, existing_distinct, existing_iff}
use Rattle.model.proofs.Jobs.{Good, Lower, existing_total, existing_few}

pub at_map : {A B : Type 0} (f : A → B) (l : List A) (k : ℕ) (b : B) (a : A) → k < length l → get_or (map f l) k b ≡ f (get_or l k a)
at_map f [] k b a h = absurd (omega arith)
at_map f (x ∷ l) zero b a h = refl
at_map f (x ∷ l) (suc k) b a h = at_map f l k b a (omega arith)

module _ (ρ : Run) (J : Jobs ρ) where
  abbrev H : ℕ
  H = ρ.setting.horizon

  pub record_count_lem : length ρ.records ≡ length (existing ρ ρ.setting.horizon)
  record_count_lem = sym (length-map ρ.records job_of) ∙ ap length J

  pub record_total : length ρ.records ≡ total_jobs ρ.tasks ρ.setting.horizon
  record_total = record_count_lem ∙ existing_total ρ H

  pub record_few : length ρ.records ≤ total_jobs ρ.tasks ρ.setting.horizon
  record_few = omega (arith, record_count_lem, existing_few ρ H)

  pub record_job : (k : ℕ) → IsRecord ρ k → job_of (rec ρ k) ≡ get_or (existing ρ ρ.setting.horizon) k (0, 0)
  record_job k h = sym (at_map job_of ρ.records k (0, 0) no_record h) ∙ ap (λ l. get_or l k (0, 0)) J

  -- they rise by task, then job
  pub records_rise : (a b : ℕ) → a < b → IsRecord ρ b → Lower (job_of (rec ρ a)) (job_of (rec ρ b))
  records_rise a b l h =
      subst (λ q. Lower q (job_of (rec ρ b))) (sym (record_job a (omega arith)))
      (subst (Lower (get_or (existing ρ H) a (0, 0))) (sym (record_job b h)) (existing_rises ρ H a b l (rw record_count_lem at h)))

  pub one_record : (a b : ℕ) → IsRecord ρ a → IsRecord ρ b → job_of (rec ρ a) ≡ job_of (rec ρ b) → a ≡ b
  one_record a b h l e = existing_distinct ρ H a b (rw record_count_lem at h) (rw record_count_lem at l) (sym (record_job a h) ∙ e ∙ record_job b l)

  module _ (good : Good ρ.tasks) where
    pub record_exists : (k : ℕ) → IsRecord ρ k → ((rec ρ k).task < length ρ.tasks) × Exists (task_of ρ k) H (rec ρ k).job
    record_exists k h = (existing_iff ρ H good (job_of (rec ρ k))).0 (k, rw record_count_lem at h, sym (record_job k h))

    pub has_record : (q : Job) → q.0 < length ρ.tasks → Exists (task ρ.tasks q.0) H q.1 → (k : ℕ) × IsRecord ρ k × (job_of (rec ρ k) ≡ q)
    has_record q r l =
        let (k, h, e) = (existing_iff ρ H good q).1 (r, l) in
        let x : IsRecord ρ k = rw record_count_lem h in
        (k, x, record_job k x ∙ e)
