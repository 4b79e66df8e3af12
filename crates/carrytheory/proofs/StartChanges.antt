-- What a start changes: of one record its start, end and core, and when the job after it is ready. Assumes nothing.
use Rattle.std.specs.Prelude.{None, Option, Some}
use Prim.Native.Nat.{ℕ, ◌+◌, ◌≤◌, max}
use mathlib.Core.Path.{◌≡◌, refl, sym, ◌∙◌, ap}
use native.Mathlib.Omega.{arith}
use native.Mathlib.Decide.{ℕ_discrete}
use lib.ListN.{length, length-set}
use lib.Seq.{get_or-set_same, get_or-set_other, map-set_same}
use Rattle.model.specs.declared.record.Record.{Record}
use Rattle.model.specs.Model.{Run, IsRecord, rec, no_record, job_of, rank, preceding, ready}
use Rattle.model.specs.Rules.{Jobs, jobs_recorded}
use Rattle.model.specs.Carry.{ReadyBy, begun, starts_for}
use Rattle.carrytheory.proofs.Depends.{same_rank, existing_same}
use Rattle.carrytheory.proofs.Preceding.{same_preceding}
use Rattle.carrytheory.proofs.Readiness.{SameBefore, no_job, one_job, ready_after, same_back, same_ready, same_ready_by}

module _ (σ : Run) (u k c l : ℕ) where
  abbrev σ' : Run
  σ' = starts_for σ u k c l

  -- the same records, by their jobs
  pub as_many : length (starts_for σ u k c l).records ≡ length σ.records
  as_many = length-set σ.records k (begun σ u k c l)

  pub is_record : (a : ℕ) → IsRecord (starts_for σ u k c l) a → IsRecord σ a
  is_record a h = rw as_many at h

  pub still_record : (a : ℕ) → IsRecord σ a → IsRecord (starts_for σ u k c l) a
  still_record a h = rw as_many h

  pub jobs_stay : jobs_recorded (starts_for σ u k c l) ≡ jobs_recorded σ
  jobs_stay = map-set_same job_of σ.records k (begun σ u k c l) no_record refl

  pub rule1_stays : Jobs σ → Jobs (starts_for σ u k c l)
  rule1_stays J = jobs_stay ∙ J ∙ existing_same σ σ' σ.setting.horizon refl (sym jobs_stay)

  pub elsewhere : (a : ℕ) → ¬ (a ≡ k) → rec (starts_for σ u k c l) a ≡ rec σ a
  elsewhere a f = get_or-set_other σ.records k a (begun σ u k c l) no_record f

  module _ (range : IsRecord σ k) where
    pub here : rec (starts_for σ u k c l) k ≡ begun σ u k c l
    here = get_or-set_same σ.records k (begun σ u k c l) no_record range

    -- what starting leaves alone
    untouched : {A : Type 0} (f : (x : Record) → A) → f (begun σ u k c l) ≡ f (rec σ k) → (a : ℕ) → f (rec σ' a) ≡ f (rec σ a)
    untouched f e a = go (ℕ_discrete a k)
      where
        go : Dec (a ≡ k) → f (rec σ' a) ≡ f (rec σ a)
        go (yes z) = rw (z, here) e
        go (no z) = ap f (elsewhere a z)

    pub job_stays : (a : ℕ) → job_of (rec (starts_for σ u k c l) a) ≡ job_of (rec σ a)
    job_stays = untouched job_of refl

    pub release_stays : (a : ℕ) → (rec (starts_for σ u k c l) a).release ≡ (rec σ a).release
    release_stays = untouched (λ x. x.release) refl

    pub rank_stays : (a : ℕ) → rank (starts_for σ u k c l) a ≡ rank σ a
    rank_stays a = same_rank σ' σ a a refl (job_stays a) (release_stays a)

    pub preceding_stays : (a : ℕ) → preceding (starts_for σ u k c l) a ≡ preceding σ a
    preceding_stays = same_preceding σ' σ as_many job_stays

    -- before every job but the next of its task the same stands
    same_before : (a : ℕ) → ¬ (preceding σ a ≡ Some k) → SameBefore σ a σ' a
    same_before a f = go (preceding σ a) refl
      where
        go : (o : Option ℕ) → preceding σ a ≡ o → SameBefore σ a σ' a
        go None e = no_job e (preceding_stays a ∙ e)
        go (Some p) e = one_job p p e (preceding_stays a ∙ e) (sym (elsewhere p (λ z. f (e ∙ ap Some z))))

    pub ready_stays : (a : ℕ) → ¬ (preceding σ a ≡ Some k) → ready (starts_for σ u k c l) a ≡ ready σ a
    ready_stays a f = sym (same_ready σ σ' a a (sym (release_stays a)) (same_before a f))

    -- the next of its task is not ready while the job runs
    pub ready_next : (a : ℕ) → preceding σ a ≡ Some k → ready (starts_for σ u k c l) a ≡ max (rec σ a).release (u + l)
    ready_next a e =
        ready_after σ' a k (preceding_stays a ∙ e) ∙ (λ κ. max (release_stays a κ) (here κ).end)

    module _ (waits : (rec σ k).core ≡ 0) where
      -- a job that is ready stays so
      pub still_ready : (a v : ℕ) → ReadyBy σ a v → ReadyBy (starts_for σ u k c l) a v
      still_ready a v R =
          same_ready_by σ σ' a a (sym (release_stays a)) v (same_before a (λ e. let b = R.begun_before k e in omega arith)) R

    -- and a start makes no job ready sooner
    pub no_sooner_ready : 1 ≤ l → (a v : ℕ) → v ≤ u → ReadyBy (starts_for σ u k c l) a v → ReadyBy σ a v
    no_sooner_ready lasts a v early R =
        same_ready_by σ' σ a a (release_stays a) v (same_back (same_before a (λ e. omega (arith, R.instant, ready_next a e)))) R
