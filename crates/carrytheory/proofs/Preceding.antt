-- Its task's preceding job: which record that is, for any list of records and where rule 1 holds. Assumes nothing.
use Rattle.std.specs.Prelude.{None, Some}
use Prim.Native.Nat.{ℕ, zero, suc, ◌≤◌, ◌<◌}
use mathlib.Core.Path.{◌≡◌, refl, sym, ◌∙◌, ap}
use mathlib.Core.Logic.{inl, inr}
use native.Mathlib.Omega.{arith}
use native.Mathlib.Decide.{dec_lt}
use lib.ListN.{length}
use Rattle.base.specs.Find.{first}
use Rattle.base.proofs.Find.{some≢none}
use Rattle.base.proofs.Searches.{Finds, total_number, finds_some, first_finds, finds_same}
use Rattle.model.specs.Model.{Run, Job, IsRecord, rec, job_of, same_job, place_of, job_before, preceding}
use Rattle.model.specs.Rules.{Jobs}
use Rattle.model.specs.Compute.Places.{size}
use Rattle.model.proofs.RuleTests.{says_same_job}
use Rattle.model.proofs.Jobs.{Lower}
use Rattle.carrytheory.proofs.Depends.{existing_before}
use Rattle.carrytheory.proofs.Recorded.{record_count_lem, record_job, records_rise, one_record}

-- The least record of a job
-- -------------------------
module _ (ρ : Run) where
  abbrev pub RecordOf : Job → ℕ → Type 0
  RecordOf q k = IsRecord ρ k × (job_of (rec ρ k) ≡ q)

  pub place_finds : (q : Job) → Finds ◌<◌ (RecordOf q) (place_of ρ q)
  place_finds q =
      finds_same (λ k h. (omega (arith, h.1), h.2)) (λ k h. (omega arith, omega (arith, h.0), h.1))
      (first_finds _ _ (λ k. says_same_job (job_of (rec ρ k)) q) 0 (size ρ))

-- the one record of a job is its least
pub least_is : (ρ : Run) → Jobs ρ → (k : ℕ) (q : Job) → RecordOf ρ q k → place_of ρ q ≡ Some k
least_is ρ J k q (h, e) = go (place_finds ρ q)
  where
    go : Finds ◌<◌ (RecordOf ρ q) (place_of ρ q) → place_of ρ q ≡ Some k
    go (Finds.none_passes z f) = absurd (f k (h, e))
    go (Finds.passes p z F) = z ∙ ap Some (one_record ρ J p k F.here.0 h (F.here.1 ∙ sym e))

-- The job before, of any records
-- ------------------------------

-- p is the job before k, of the same task
pub record JustBefore (σ : Run) (p k : ℕ) : Type 0 where
  pub range : IsRecord σ p
  pub same_task : (rec σ p).task ≡ (rec σ k).task
  pub one_less : suc (rec σ p).job ≡ (rec σ k).job

module _ (σ : Run) (k : ℕ) where
  pub preceding_is : (p : ℕ) → preceding σ k ≡ Some p → JustBefore σ p k
  unfolding preceding
  preceding_is p e = go (rec σ k).job refl e
    where
      go : (j : ℕ) → (rec σ k).job ≡ j → job_before σ (rec σ k).task j ≡ Some p → JustBefore σ p k
      go zero z q = absurd (some≢none (sym q))
      go (suc j) z q =
          let (h, w) = ((finds_some _ _ (place_finds σ ((rec σ k).task, j)) total_number p).0 q).here in
          let y : (rec σ p).job ≡ j = ap (λ x. x.1) w in
          record { range = h; same_task = ap (λ x. x.0) w; one_less = ap suc y ∙ sym z }

  pub first_alone : (rec σ k).job ≡ 0 → preceding σ k ≡ None
  unfolding preceding
  first_alone e = ap (job_before σ (rec σ k).task) e

-- it depends on the jobs of the records alone
module _ (ρ σ : Run) (count : length ρ.records ≡ length σ.records) (job : (k : ℕ) → job_of (rec ρ k) ≡ job_of (rec σ k)) where
  same_job_before : (i j : ℕ) → job_before ρ i j ≡ job_before σ i j
  same_job_before i zero = refl
  same_job_before i (suc j) = λ κ. first (λ k. same_job (job k κ) (i, j)) 0 (count κ)

  pub same_preceding : (k : ℕ) → preceding ρ k ≡ preceding σ k
  unfolding preceding
  same_preceding k = (λ κ. job_before ρ (job k κ).0 (job k κ).1) ∙ same_job_before (rec σ k).task (rec σ k).job

-- Where rule 1 holds it is the record before
-- ------------------------------------------
module _ (σ : Run) (J : Jobs σ) where
  pub preceding_only : (p k : ℕ) → JustBefore σ p k → preceding σ k ≡ Some p
  unfolding preceding
  preceding_only p k B =
      ap (job_before σ (rec σ k).task) (sym B.one_less)
      ∙ least_is σ J p ((rec σ k).task, (rec σ p).job) (B.range, λ κ. (B.same_task κ, (rec σ p).job))

  -- a job that is not its task's first has one before it
  has_before : (k : ℕ) → IsRecord σ k → 1 ≤ (rec σ k).job → (p : ℕ) × JustBefore σ p k
  has_before k h l = go (rec σ k).job refl
    where
      go : (j : ℕ) → (rec σ k).job ≡ j → (p : ℕ) × JustBefore σ p k
      go zero z = absurd (omega arith)
      go (suc j) z =
          let (p, m, e) =
          existing_before σ σ.setting.horizon (rec σ k).task j
          (k, rw (record_count_lem σ J) at h, sym (record_job σ J k h) ∙ (λ κ. ((rec σ k).task, z κ))) in
          let w : job_of (rec σ p) ≡ ((rec σ k).task, j) = record_job σ J p (rw (record_count_lem σ J) m) ∙ e in
          let y : (rec σ p).job ≡ j = ap (λ x. x.1) w in
          (p, record { range = rw (record_count_lem σ J) m; same_task = ap (λ x. x.0) w; one_less = ap suc y ∙ sym z })

  -- no record stands between the two
  just_before : (p k : ℕ) → IsRecord σ k → JustBefore σ p k → suc p ≡ k
  just_before p k h B = go (dec_lt p k) (dec_lt (suc p) k)
    where
      ahead : k ≤ p → ⊥
      ahead l = at (dec_lt k p)
        where
          at : Dec (k < p) → ⊥
          at (yes m) = clash (records_rise σ J k p m B.range)
            where
              clash : ¬ Lower (job_of (rec σ k)) (job_of (rec σ p))
              clash (inl a) = omega (arith, B.same_task)
              clash (inr a) = omega (arith, B.one_less)
          at (no m) =
              let e : p ≡ k = omega (arith, m) in
              let z : (rec σ p).job ≡ (rec σ k).job = ap (λ x. (rec σ x).job) e in
              omega (arith, B.one_less)

      between : suc p < k → ⊥
      between l = clash (records_rise σ J p (suc p) (omega arith) (omega arith)) (records_rise σ J (suc p) k l h)
        where
          clash : Lower (job_of (rec σ p)) (job_of (rec σ (suc p))) → ¬ Lower (job_of (rec σ (suc p))) (job_of (rec σ k))
          clash (inl a) (inl b) = omega (arith, B.same_task)
          clash (inl a) (inr b) = omega (arith, B.same_task)
          clash (inr a) (inl b) = omega (arith, B.same_task)
          clash (inr a) (inr b) = omega (arith, B.one_less)

      go : Dec (p < k) → Dec (suc p < k) → suc p ≡ k
      go (no a) b = absurd (ahead (omega (arith, a)))
      go (yes a) (yes b) = absurd (between b)
      go (yes a) (no b) = omega (arith, b)

  -- so that it is not the first record
  pub not_first : (k : ℕ) → IsRecord σ k → 1 ≤ (rec σ k).job → 1 ≤ k
  not_first k h l = let (p, B) = has_before k h l in omega (arith, just_before p k h B)

  pub record_before : (k p : ℕ) → IsRecord σ k → 1 ≤ (rec σ k).job → suc p ≡ k → preceding σ k ≡ Some p
  record_before k p h l e =
      let (x, B) = has_before k h l in
      let z : x ≡ p = omega (arith, just_before x k h B) in
      preceding_only x k B ∙ ap Some z

  -- and what precedes is the record before
  pub before_record : (k p : ℕ) → IsRecord σ k → preceding σ k ≡ Some p → suc p ≡ k
  before_record k p h e = just_before p k h (preceding_is σ k p e)

-- Of one job, in two runs in which rule 1 holds, the same job precedes.
pub data BothAfter (ρ : Run) (a : ℕ) (σ : Run) (b : ℕ) : Type 0 where
  no_job : preceding ρ a ≡ None → preceding σ b ≡ None → BothAfter ρ a σ b
  one_job : (p q : ℕ) → preceding ρ a ≡ Some p → preceding σ b ≡ Some q → IsRecord ρ p → IsRecord σ q → job_of (rec ρ p) ≡ job_of (rec σ q)
      → BothAfter ρ a σ b

module _ (ρ σ : Run) (J : Jobs ρ) (K : Jobs σ) (a b : ℕ) (h : IsRecord ρ a) (l : IsRecord σ b) (job : job_of (rec ρ a) ≡ job_of (rec σ b)) where
  pub both_after : BothAfter ρ a σ b
  both_after = go (dec_lt 0 (rec ρ a).job)
    where
      number : (rec ρ a).job ≡ (rec σ b).job
      number = ap (λ q. q.1) job

      go : Dec (1 ≤ (rec ρ a).job) → BothAfter ρ a σ b
      go (no f) = no_job (first_alone ρ a (omega (arith, f))) (first_alone σ b (omega (arith, f, number)))
      go (yes f) =
          let (p, A) = has_before ρ J a h f in
          let (q, B) = has_before σ K b l (omega (arith, number)) in
          let t : (rec ρ p).task ≡ (rec σ q).task = A.same_task ∙ ap (λ q. q.0) job ∙ sym B.same_task in
          let j : (rec ρ p).job ≡ (rec σ q).job = omega (arith, number, A.one_less, B.one_less) in
          one_job p q (preceding_only ρ J p a A) (preceding_only σ K q b B) A.range B.range (λ κ. (t κ, j κ))
