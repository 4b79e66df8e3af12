-- When a job is ready: what that depends on, in any run and while it is carried. Assumes nothing.
use Rattle.std.specs.Prelude.{None, Option, Some}
use Prim.Native.Nat.{ℕ, zero, suc, ◌-◌, ◌≤◌, max}
use mathlib.Core.Path.{◌≡◌, refl, sym, ◌∙◌, ap}
use mathlib.Core.Logic.{◌⊎◌, inl, inr, ◌↔◌}
use mathlib.Core.Bool.{true≢false}
use native.Mathlib.Omega.{arith}
use native.Mathlib.Decide.{dec_le}
use lib.Dec.{leb}
use lib.ListN.{length}
use Rattle.base.proofs.Test.{Says, says_leb, says_eqb, says_and, says_not, says_map, says_same}
use Rattle.base.proofs.Find.{some≢none}
use Rattle.model.specs.Model.{Run, IsRecord, rec, job_of, preceding, end_if, end_before, ready}
use Rattle.model.specs.Rules.{Jobs, Started}
use Rattle.model.specs.Carry.{Begun, BegunBefore, ReadyBy, begun_if, ready_by}
use Rattle.model.specs.Compute.Places.{in_turn}
use Rattle.model.proofs.RuleTests.{says_in_turn}
use Rattle.carrytheory.proofs.Preceding.{preceding_is, first_alone, same_preceding, not_first, record_before}

-- The later of its release and the end of the job before
-- ------------------------------------------------------
module _ (σ : Run) (k : ℕ) where
  pub ready_is : ready σ k ≡ max (rec σ k).release (end_before σ k)
  unfolding ready
  ready_is = refl

  -- no job is ready before its release
  pub release_ready : (rec σ k).release ≤ ready σ k
  release_ready = omega (arith, ready_is)

  end_alone : preceding σ k ≡ None → end_before σ k ≡ 0
  unfolding end_before
  end_alone e = ap (end_if σ) e

  pub ready_alone : preceding σ k ≡ None → ready σ k ≡ (rec σ k).release
  ready_alone e = omega (arith, ready_is, end_alone e)

  pub end_after : (p : ℕ) → preceding σ k ≡ Some p → end_before σ k ≡ (rec σ p).end
  unfolding end_before
  end_after p e = ap (end_if σ) e

  pub ready_after : (p : ℕ) → preceding σ k ≡ Some p → ready σ k ≡ max (rec σ k).release (rec σ p).end
  ready_after p e = omega (arith, ready_is, end_after p e)

  -- where a job does not start before its release, it is in turn exactly if it does not start before it is ready
  pub turn_by_ready : Started σ k → leb (ready σ k) (rec σ k).start ≡ in_turn σ k
  turn_by_ready r =
      says_same (says_leb (ready σ k) (rec σ k).start) (says_in_turn σ k) (λ l. omega (arith, ready_is)) (λ l. omega (arith, ready_is))

-- The test of a carry
-- -------------------
module _ (σ : Run) where
  says_begun : (k : ℕ) (o : Option ℕ) → preceding σ k ≡ o → Says (begun_if σ o) (BegunBefore σ k)
  says_begun k None e = record { sound = λ q p w. absurd (some≢none (sym w ∙ e)); refutes = λ q. absurd (true≢false q) }
  says_begun k (Some p) e =
      says_map
      (λ f x w. let z : p ≡ x = cc in rw z at (positive p f))
      (λ f z. let b = f p e in omega arith)
      (says_not (says_eqb (rec σ p).core 0))
    where
      positive : (p : ℕ) → ¬ ((rec σ p).core ≡ 0) → Begun σ p
      positive p f = omega (arith, f)

  pub says_ready_by : (k t : ℕ) → Says (ready_by σ k t) (ReadyBy σ k t)
  says_ready_by k t =
      says_map (λ w. record { begun_before = w.0; instant = w.1 }) (λ R. (R.begun_before, R.instant))
      (says_and (says_begun k (preceding σ k) refl) (says_leb _ _))

  pub nothing_before : (k : ℕ) → preceding σ k ≡ None → BegunBefore σ k
  nothing_before k e p w = absurd (some≢none (sym w ∙ e))

  pub begun_before_one : (k p : ℕ) → preceding σ k ≡ Some p → Begun σ p → BegunBefore σ k
  begun_before_one k p e b x w = let z : p ≡ x = cc in rw z at b

  -- where every job has begun, a job is ready by each instant from its ready instant on
  pub ready_then : ((p : ℕ) → IsRecord σ p → Begun σ p) → (k t : ℕ) → ready σ k ≤ t → ReadyBy σ k t
  ready_then all k t l = record { begun_before = λ p e. all p (preceding_is σ k p e).range; instant = l }

-- Where rule 1 holds: it is released, and it is its task's first job, or that of the record before has begun and ended.
module _ (σ : Run) (J : Jobs σ) (k t : ℕ) (h : IsRecord σ k) where
  abbrev pub ByRecord : Type 0
  ByRecord = ((rec σ k).release ≤ t) × (((rec σ k).job ≡ 0) ⊎ (Begun σ (k - 1) × ((rec σ (k - 1)).end ≤ t)))

  before : 1 ≤ (rec σ k).job → preceding σ k ≡ Some (k - 1)
  before l = let n = not_first σ J k h l in record_before σ J k (k - 1) h l (omega arith)

  by_record : ReadyBy σ k t → ByRecord
  by_record R = (omega (arith, release_ready σ k, R.instant), go (dec_le 1 (rec σ k).job))
    where
      go : Dec (1 ≤ (rec σ k).job) → ((rec σ k).job ≡ 0) ⊎ (Begun σ (k - 1) × ((rec σ (k - 1)).end ≤ t))
      go (no f) = inl (omega (arith, f))
      go (yes l) = inr (R.begun_before (k - 1) (before l), omega (arith, R.instant, ready_after σ k (k - 1) (before l)))

  first_by : (rec σ k).release ≤ t → (rec σ k).job ≡ 0 → ReadyBy σ k t
  first_by r z =
      let e = first_alone σ k z in
      record { begun_before = nothing_before σ k e; instant = omega (arith, ready_alone σ k e) }

  record_by : ByRecord → ReadyBy σ k t
  record_by (r, inl z) = first_by r z
  record_by (r, inr (b, l)) = go (dec_le 1 (rec σ k).job)
    where
      go : Dec (1 ≤ (rec σ k).job) → ReadyBy σ k t
      go (no f) = first_by r (omega (arith, f))
      go (yes m) =
          let e = before m in
          record { begun_before = begun_before_one σ k (k - 1) e b; instant = omega (arith, ready_after σ k (k - 1) e) }

  pub ready_by_record : ReadyBy σ k t ↔ ByRecord
  ready_by_record = (by_record, record_by)

-- Before two records the same stands
-- ----------------------------------
pub data SameBefore (ρ : Run) (a : ℕ) (σ : Run) (b : ℕ) : Type 0 where
  no_job : preceding ρ a ≡ None → preceding σ b ≡ None → SameBefore ρ a σ b
  one_job : (p q : ℕ) → preceding ρ a ≡ Some p → preceding σ b ≡ Some q → rec ρ p ≡ rec σ q → SameBefore ρ a σ b

pub same_back : {ρ σ : Run} {a b : ℕ} → SameBefore ρ a σ b → SameBefore σ b ρ a
same_back (no_job d e) = no_job e d
same_back (one_job p q d e s) = one_job q p e d (sym s)

-- as before each record of two runs with the same records
pub same_records : (ρ σ : Run) → length ρ.records ≡ length σ.records → ((k : ℕ) → rec ρ k ≡ rec σ k) → (k : ℕ) → SameBefore ρ k σ k
same_records ρ σ n e k = go (preceding ρ k) refl
  where
    same : preceding σ k ≡ preceding ρ k
    same = sym (same_preceding ρ σ n (λ k. ap job_of (e k)) k)

    go : (o : Option ℕ) → preceding ρ k ≡ o → SameBefore ρ k σ k
    go None d = no_job d (same ∙ d)
    go (Some p) d = one_job p p d (same ∙ d) (e p)

pub same_end : {ρ σ : Run} {a b : ℕ} → SameBefore ρ a σ b → end_before ρ a ≡ end_before σ b
same_end {ρ} {σ} {a} {b} (no_job d e) = end_alone ρ a d ∙ sym (end_alone σ b e)
same_end {ρ} {σ} {a} {b} (one_job p q d e s) = end_after ρ a p d ∙ ap (λ x. x.end) s ∙ sym (end_after σ b q e)

module _ (ρ σ : Run) (a b : ℕ) (release : (rec ρ a).release ≡ (rec σ b).release) where
  pub same_ready : SameBefore ρ a σ b → ready ρ a ≡ ready σ b
  same_ready S = ready_is ρ a ∙ (λ κ. max (release κ) (same_end S κ)) ∙ sym (ready_is σ b)

  pub same_ready_by : (t : ℕ) → SameBefore ρ a σ b → ReadyBy ρ a t → ReadyBy σ b t
  same_ready_by t S R = record { begun_before = begun S; instant = omega (arith, R.instant, same_ready S) }
    where
      begun : SameBefore ρ a σ b → BegunBefore σ b
      begun (no_job d e) = nothing_before σ b e
      begun (one_job p q d e s) = begun_before_one σ b q e (rw s at (R.begun_before p d))

-- By instant M all is released and has ended
-- ------------------------------------------

-- by instant M every job is released, and whatever has begun has ended
abbrev pub Below : ℕ → Run → Type 0
Below M σ = (k : ℕ) → IsRecord σ k → ((rec σ k).release ≤ M) × ((rec σ k).end ≤ M)

module _ (σ : Run) where
  pub ready_by_lem : (M : ℕ) → Below M σ → (k : ℕ) → IsRecord σ k → ready σ k ≤ M
  ready_by_lem M B k h = go (preceding σ k) refl
    where
      go : (o : Option ℕ) → preceding σ k ≡ o → ready σ k ≤ M
      go None e = omega (arith, ready_alone σ k e, B k h)
      go (Some p) e = omega (arith, ready_after σ k p e, B k h, B p (preceding_is σ k p e).range)

  -- of the jobs that have not begun, one has none such before it: the least of its task
  least_waits : (j a : ℕ) → (rec σ a).job ≡ j → IsRecord σ a → (rec σ a).core ≡ 0 → (k : ℕ) × IsRecord σ k × ((rec σ k).core ≡ 0) × BegunBefore σ k
  least_waits zero a q h z = (a, h, z, λ p e. absurd (omega (arith, (preceding_is σ a p e).one_less)))
  least_waits (suc j) a q h z = go (least_waits j) (preceding σ a) refl
    where
      go : ((a : ℕ) → (rec σ a).job ≡ j → IsRecord σ a → (rec σ a).core ≡ 0 → (k : ℕ) × IsRecord σ k × ((rec σ k).core ≡ 0) × BegunBefore σ k)
          → (o : Option ℕ) → preceding σ a ≡ o → (k : ℕ) × IsRecord σ k × ((rec σ k).core ≡ 0) × BegunBefore σ k
      go ih None e = (a, h, z, nothing_before σ a e)
      go ih (Some p) e = at (dec_le 1 (rec σ p).core)
        where
          at : Dec (Begun σ p) → (k : ℕ) × IsRecord σ k × ((rec σ k).core ≡ 0) × BegunBefore σ k
          at (yes b) = (a, h, z, begun_before_one σ a p e b)
          at (no b) = let B = preceding_is σ a p e in ih p (omega (arith, B.one_less)) B.range (omega (arith, b))

  pub some_least_waits : (a : ℕ) → IsRecord σ a → (rec σ a).core ≡ 0 → (k : ℕ) × IsRecord σ k × ((rec σ k).core ≡ 0) × BegunBefore σ k
  some_least_waits a = least_waits (rec σ a).job a refl

  -- so if a job has not begun by then, one is ready
  pub some_ready : (M : ℕ) → Below M σ → (a : ℕ) → IsRecord σ a → (rec σ a).core ≡ 0 → (k : ℕ) × IsRecord σ k × ((rec σ k).core ≡ 0) × ReadyBy σ k M
  some_ready M B a h z =
      let (k, r, c, f) = some_least_waits a h z in
      (k, r, c, record { begun_before = f; instant = ready_by_lem M B k r })
