-- What comes of a run from instant t on: what has begun is kept, and what begins starts at t or later. Assumes nothing.
use Prim.Native.Nat.{ℕ, zero, suc, ◌≤◌}
use mathlib.Core.Path.{◌≡◌, refl, sym, subst, ◌∙◌, ap}
use native.Mathlib.Omega.{arith}
use native.Mathlib.Decide.{ℕ_discrete}
use lib.ListN.{length}
use Rattle.base.proofs.Find.{Answers, answers}
use Rattle.model.specs.Model.{Run, rec, task_of, job_of}
use Rattle.model.specs.Carry.{Begun, begun, starts_for, starts, instants_from}
use Rattle.model.specs.Compute.Jumps.{start_at, next_start, start_all}
use Rattle.carrytheory.proofs.StartChanges.{as_many, here, elsewhere}
use Rattle.carrytheory.proofs.MayStart.{MayStart, begun_other, start_at_lem}
use Rattle.carrytheory.proofs.ByStarts.{start_zero, start_some, start_none}

pub record Later (t : ℕ) (σ χ : Run) : Type 0 where
  pub as_many : length χ.records ≡ length σ.records
  pub job : (k : ℕ) → job_of (rec χ k) ≡ job_of (rec σ k)
  pub release : (k : ℕ) → (rec χ k).release ≡ (rec σ k).release
  pub kept : (k : ℕ) → Begun σ k → rec χ k ≡ rec σ k
  pub later : (k : ℕ) → ¬ Begun σ k → Begun χ k → t ≤ (rec χ k).start

nothing_yet : (t : ℕ) (σ : Run) → Later t σ σ
nothing_yet t σ =
    record { as_many = refl; job = λ k. refl; release = λ k. refl; kept = λ k b. refl; later = λ k w b. absurd (w b) }

-- a start at u, and what comes of that
module _ (t u : ℕ) (σ χ : Run) (k c l : ℕ) (after : t ≤ u) (S : MayStart σ u k c) (R : Later u (starts_for σ u k c l) χ) where
  -- the job that starts has the record with which it starts
  started : rec χ k ≡ begun σ u k c l
  started = let e = here σ u k c l S.job.range in R.kept k (rw e S.core.0) ∙ e

  job⁺ : (a : ℕ) → job_of (rec χ a) ≡ job_of (rec σ a)
  job⁺ a = go (ℕ_discrete a k)
    where
      go : Dec (a ≡ k) → job_of (rec χ a) ≡ job_of (rec σ a)
      go (yes e) = rw e (ap job_of started)
      go (no f) = R.job a ∙ ap job_of (elsewhere σ u k c l a f)

  release⁺ : (a : ℕ) → (rec χ a).release ≡ (rec σ a).release
  release⁺ a = go (ℕ_discrete a k)
    where
      go : Dec (a ≡ k) → (rec χ a).release ≡ (rec σ a).release
      go (yes e) = rw e (ap (λ x. x.release) started)
      go (no f) = R.release a ∙ ap (λ x. x.release) (elsewhere σ u k c l a f)

  kept⁺ : (a : ℕ) → Begun σ a → rec χ a ≡ rec σ a
  kept⁺ a b =
      let same = elsewhere σ u k c l a (begun_other σ u k c S a b) in
      R.kept a (rw same b) ∙ same

  later⁺ : (a : ℕ) → ¬ Begun σ a → Begun χ a → t ≤ (rec χ a).start
  later⁺ a w b = go (ℕ_discrete a k)
    where
      go : Dec (a ≡ k) → t ≤ (rec χ a).start
      go (yes e) = rw (e, started) after
      go (no f) = omega (arith, R.later a (λ z. w (rw (elsewhere σ u k c l a f) at z)) b)

  pub after_start : Later t σ χ
  after_start =
      record {
        as_many = R.as_many ∙ as_many σ u k c l;
        job = job⁺;
        release = release⁺;
        kept = kept⁺;
        later = later⁺;
      }

pub later_all : (m t : ℕ) (σ : Run) → Later t σ (start_all m t σ)
unfolding next_start
later_all zero t σ = subst (Later t σ) (sym (start_zero t σ)) (nothing_yet t σ)
later_all (suc m) t σ = go (later_all m) (answers (start_at σ) (instants_from t) t)
  where
    go : ((t : ℕ) (σ : Run) → Later t σ (start_all m t σ)) → Answers (start_at σ) t (instants_from t) → Later t σ (start_all (suc m) t σ)
    go ih (Answers.nothing e g) = subst (Later t σ) (sym (start_none (suc m) t σ e)) (nothing_yet t σ)
    go ih (Answers.finds u (k, c) e l b r g) =
        let S = start_at_lem σ u k c r in
        subst (Later t σ) (sym (start_some m t u k c σ e)) (after_start t u σ (start_all m u (starts σ u k c)) k c (task_of σ k).greatest l S (ih u (starts σ u k c)))
