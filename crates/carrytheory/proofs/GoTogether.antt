-- From instant t up to H' a run and a longer one go together. Assumes nothing.
use Rattle.std.specs.Prelude.{None, Some}
use Prim.Native.Nat.{ℕ, zero, suc, ◌+◌, ◌-◌, ◌^◌, ◌≤◌, ◌<◌}
use mathlib.Core.Path.{◌≡◌, refl, ◌∙◌, ap}
use native.Mathlib.Omega.{arith}
use native.Mathlib.Decide.{ℕ_discrete, dec_lt}
use Rattle.model.specs.declared.record.Record.{Record}
use Rattle.model.specs.Model.{Run, IsRecord, rec, task_of, job_of}
use Rattle.model.specs.Carry.{unbegun, starts_for, starts}
use Rattle.model.specs.Compute.Jumps.{start_at, waiting}
use Rattle.carrytheory.proofs.StartChanges.{is_record, here, elsewhere}
use Rattle.carrytheory.proofs.MayStart.{MayStart, fewer_then, start_at_lem}
use Rattle.carrytheory.proofs.ByStarts.{all_start, starts_here, starts_later}
use Rattle.carrytheory.proofs.Longer.{Longer, Together, together, longer_on}

-- a record has begun before H', or says nothing but its job and its release
pub data Settled (H' : ℕ) (x : Record) : Type 0 where
  began : 1 ≤ x.core → x.start < H' → Settled H' x
  waits : x ≡ unbegun (job_of x) x.release → Settled H' x

abbrev pub AllSettled : ℕ → Run → Type 0
AllSettled H' σ = (k : ℕ) → IsRecord σ k → Settled H' (rec σ k)

settled_on : (H' : ℕ) (σ : Run) (t k c l : ℕ) → t < H' → MayStart σ t k c → AllSettled H' σ → AllSettled H' (starts_for σ t k c l)
settled_on H' σ t k c l b S F a h = go (ℕ_discrete a k)
  where
    go : Dec (a ≡ k) → Settled H' (rec (starts_for σ t k c l) a)
    go (yes e) = rw (e, here σ t k c l S.job.range) (began S.core.0 b)
    go (no f) = rw (elsewhere σ t k c l a f) (F a (is_record σ t k c l a h))

module _ (H' : ℕ) where
  -- where σ and the longer τ stand at H'
  pub record Reached (t : ℕ) (σ τ : Run) : Type 0 where
    pub shorter : Run
    pub longer : Run
    pub still : Longer H' shorter longer
    pub settled : AllSettled H' longer
    pub setting : longer.setting ≡ τ.setting
    pub tasks : longer.tasks ≡ τ.tasks
    pub shorter_goes : all_start t σ ≡ all_start H' shorter
    pub longer_goes : all_start t τ ≡ all_start H' longer

  module _ (t : ℕ) (σ τ : Run) where
    arrived : t ≡ H' → Longer H' σ τ → AllSettled H' τ → Reached t σ τ
    arrived e X F =
        record {
          shorter = σ;
          longer = τ;
          still = X;
          settled = F;
          setting = refl;
          tasks = refl;
          shorter_goes = ap (λ v. all_start v σ) e;
          longer_goes = ap (λ v. all_start v τ) e;
        }

    -- nothing starts at t
    quietly : t < 2 ^ 32 → start_at σ t ≡ None → start_at τ t ≡ None → Reached (suc t) σ τ → Reached t σ τ
    quietly l e d R =
        record {
          shorter = R.shorter;
          longer = R.longer;
          still = R.still;
          settled = R.settled;
          setting = R.setting;
          tasks = R.tasks;
          shorter_goes = starts_later (waiting σ) t σ l e ∙ R.shorter_goes;
          longer_goes = starts_later (waiting τ) t τ l d ∙ R.longer_goes;
        }

    -- the same job starts in both
    by_a_start : t < 2 ^ 32 → (k j c : ℕ) → start_at σ t ≡ Some (k, c) → start_at τ t ≡ Some (j, c) → Reached t (starts σ t k c) (starts τ t j c)
        → Reached t σ τ
    by_a_start l k j c e d R =
        record {
          shorter = R.shorter;
          longer = R.longer;
          still = R.still;
          settled = R.settled;
          setting = R.setting;
          tasks = R.tasks;
          shorter_goes = starts_here t k c σ l e ∙ R.shorter_goes;
          longer_goes = starts_here t j c τ l d ∙ R.longer_goes;
        }

  -- n bounds the instants and the starts that are left
  abbrev Walks : ℕ → Type 0
  Walks n = (t : ℕ) (σ τ : Run) → t ≤ H' → (H' - t) + waiting σ ≤ n → Longer H' σ τ → AllSettled H' τ → Reached t σ τ

  module _ (small : H' < 2 ^ 32) where
    onward : (n : ℕ) → Walks n → (t : ℕ) (σ τ : Run) → t < H' → (H' - t) + waiting σ ≤ suc n → Longer H' σ τ → AllSettled H' τ → Reached t σ τ
    onward n ih t σ τ l m X F = go (together H' σ τ X t l)
      where
        go : Together H' σ τ t → Reached t σ τ
        go (Together.nothing e d) = quietly t σ τ (omega arith) e d (ih (suc t) σ τ (omega arith) (omega arith) X F)
        go (Together.one k j c e d s) =
            let S = start_at_lem σ t k c e in
            let T = start_at_lem τ t j c d in
            let w = fewer_then σ t k c (task_of σ k).greatest S in
            let X' = longer_on H' σ τ X t k j c S.job.range T.job.range s in
            by_a_start t σ τ (omega arith) k j c e d
            (ih t (starts σ t k c) (starts τ t j c) (omega arith) (omega arith) X' (settled_on H' τ t j c (task_of τ j).greatest l T F))

    pub walk : (n : ℕ) → Walks n
    walk zero t σ τ l m X F = arrived t σ τ (omega arith) X F
    walk (suc n) t σ τ l m X F = go (walk n) (dec_lt t H')
      where
        go : Walks n → Dec (t < H') → Reached t σ τ
        go ih (yes b) = onward n ih t σ τ b m X F
        go ih (no b) = arrived t σ τ (omega (arith, b)) X F
