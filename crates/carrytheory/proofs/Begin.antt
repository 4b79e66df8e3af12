-- All jobs begin, one after the other, from start to start. Assumes nothing.
use Rattle.std.specs.Prelude.{None, Some}
use Prim.Native.Nat.{ℕ, zero, suc, ◌+◌, ◌*◌, ◌^◌, ◌≤◌, ◌<◌}
use mathlib.Core.Path.{◌≡◌, refl, sym, ◌∙◌, ap}
use mathlib.Core.List.{List}
use native.Mathlib.Omega.{arith}
use native.Mathlib.Nat.{suc_inj}
use native.Mathlib.Decide.{ℕ_discrete, dec_le}
use Rattle.base.proofs.Find.{Answers, answers}
use Rattle.model.specs.declared.task.Task.{Task}
use Rattle.model.specs.Model.{Run, IsRecord, rec, task, task_of, most_horizon, most_time, most_jobs}
use Rattle.model.specs.Rules.{jobs_recorded}
use Rattle.model.specs.Carry.{Begun, starts, instants_from}
use Rattle.model.specs.Compute.Jumps.{start_at, next_start, waiting, start_all}
use Rattle.carrytheory.proofs.Readiness.{Below, some_ready}
use Rattle.carrytheory.proofs.StartChanges.{is_record, jobs_stay, here, elsewhere, job_stays}
use Rattle.carrytheory.proofs.Waiting.{Waits, waits}
use Rattle.carrytheory.proofs.MayStart.{MayStart, begun_other, fewer_then, start_at_lem, nothing_starts}
use Rattle.carrytheory.proofs.ByStarts.{start_zero, start_some}
use Rattle.carrytheory.proofs.Step.{Inv, step}

-- there is a core, and no job runs longer than w
pub record Able (N : ℕ) (τs : List Task) (w : ℕ) : Type 0 where
  pub cores : 1 ≤ N
  pub fit : (i : ℕ) → (task τs i).least ≤ (task τs i).greatest
  pub most : (i : ℕ) → (task τs i).greatest ≤ w

-- The next start
-- --------------
pub record NextStart (t : ℕ) (σ : Run) (M : ℕ) : Type 0 where
  pub u : ℕ
  pub k : ℕ
  pub c : ℕ
  pub found : next_start σ t ≡ Some (u, (k, c))
  pub later : t ≤ u
  pub soon : u ≤ M
  pub quiet : (v : ℕ) → t ≤ v → v < u → start_at σ v ≡ None
  pub start : MayStart σ u k c

-- once all is released and ended, of the jobs that wait one can start
next_start_lem : (t : ℕ) (σ : Run) (M : ℕ) → 1 ≤ σ.setting.cores → t ≤ M → M < 2 ^ 32 → Below M σ → (a : ℕ) → IsRecord σ a → (rec σ a).core ≡ 0
    → NextStart t σ M
unfolding next_start
next_start_lem t σ M n l m B a h z = go (answers (start_at σ) (instants_from t) t)
  where
    can : ¬ (start_at σ M ≡ None)
    can e =
        let (i, g, c, f) = some_ready σ M B a h z in
        let (k, r, x, y, w) = nothing_starts σ M e i g (c, f) 1 (omega arith, n) in
        let b = B k r in
        omega arith

    go : Answers (start_at σ) t (instants_from t) → NextStart t σ M
    go (Answers.nothing e g) = absurd (can (g M l (omega arith)))
    go (Answers.finds u (k, c) e d b r g) = near (dec_le u M)
      where
        near : Dec (u ≤ M) → NextStart t σ M
        near (yes s) = record { u = u; k = k; c = c; found = e; later = d; soon = s; quiet = g; start = start_at_lem σ u k c r }
        near (no s) = absurd (can (g M l (omega (arith, s))))

-- From the first start to the last
-- --------------------------------
module _ (σ₀ : Run) (H w latest : ℕ) where
  -- σ₀ has come to σ at instant t, with m jobs still to begin, of which none will end after the latest
  pub record GoingTo (m t : ℕ) (σ : Run) : Type 0 where
    pub left : waiting σ ≡ m
    pub inv : Inv t σ
    pub able : Able σ.setting.cores σ.tasks w
    pub lasting : (k : ℕ) → IsRecord σ k → 1 ≤ (task_of σ k).greatest
    -- an instant by which all is released and ended, so that each job to come adds at most w
    pub by : ℕ
    pub now : t ≤ by
    pub below : Below by σ
    pub fits : by + m * w ≤ latest
    pub four_bytes : latest < 2 ^ 32
    pub setting : σ.setting ≡ σ₀.setting
    pub tasks : σ.tasks ≡ σ₀.tasks
    pub jobs : jobs_recorded σ ≡ jobs_recorded σ₀
    pub kept : (k : ℕ) → Begun σ₀ k → rec σ k ≡ rec σ₀ k
    pub goes : start_all (waiting σ₀) H σ₀ ≡ start_all m t σ

  -- the first start is to come
  pub going_first : Inv H σ₀ → Able σ₀.setting.cores σ₀.tasks w → ((k : ℕ) → IsRecord σ₀ k → 1 ≤ (task_of σ₀ k).greatest) → (M : ℕ) → H ≤ M → Below M σ₀ → M + waiting σ₀ * w ≤ latest
      → latest < 2 ^ 32 → GoingTo (waiting σ₀) H σ₀
  going_first I A P M l B f four =
      record {
        left = refl;
        inv = I;
        able = A;
        lasting = P;
        by = M;
        now = l;
        below = B;
        fits = f;
        four_bytes = four;
        setting = refl;
        tasks = refl;
        jobs = refl;
        kept = λ k b. refl;
        goes = refl;
      }

module _ (σ₀ : Run) (H w : ℕ) {latest : ℕ} where
  module _ (m t : ℕ) (σ : Run) (G : GoingTo σ₀ H w latest (suc m) t σ) where
    -- a job is left, so one starts
    pub a_start : NextStart t σ G.by
    a_start = go (waits σ)
      where
        go : Waits σ → NextStart t σ G.by
        go (Waits.nobody z f) = absurd (omega (arith, G.left))
        go (Waits.one n z a h f) = next_start_lem t σ G.by G.able.cores G.now (omega (arith, G.fits, G.four_bytes)) G.below a h f

    module _ (X : NextStart t σ G.by) where
      abbrev u : ℕ
      u = X.u

      abbrev k : ℕ
      k = X.k

      abbrev c : ℕ
      c = X.c

      -- it runs for its W
      abbrev l : ℕ
      l = (task_of σ k).greatest

      below_after : Below (G.by + w) (starts σ u k c)
      below_after a h = go (ℕ_discrete a k)
        where
          b : ((rec σ a).release ≤ G.by) × ((rec σ a).end ≤ G.by)
          b = G.below a (is_record σ u k c l a h)

          go : Dec (a ≡ k) → ((rec (starts σ u k c) a).release ≤ G.by + w) × ((rec (starts σ u k c) a).end ≤ G.by + w)
          go (yes e) = rw (e, here σ u k c l X.start.job.range) (omega (arith, rw e at b), omega (arith, X.soon, G.able.most (rec σ k).task))
          go (no f) = rw (elsewhere σ u k c l a f) (omega (arith, b), omega (arith, b))

      kept_after : (j : ℕ) → Begun σ₀ j → rec (starts σ u k c) j ≡ rec σ₀ j
      kept_after j b = let e = G.kept j b in elsewhere σ u k c l j (begun_other σ u k c X.start j (rw e b)) ∙ e

      lasting_after : (a : ℕ) → IsRecord (starts σ u k c) a → 1 ≤ (task_of (starts σ u k c) a).greatest
      lasting_after a h =
          let e : task_of (starts σ u k c) a ≡ task_of σ a = ap (λ q. task σ.tasks q.0) (job_stays σ u k c l X.start.job.range a) in
          rw e (G.lasting a (is_record σ u k c l a h))

      -- and then one job less is left
      pub going_on : GoingTo σ₀ H w latest m X.u (starts σ X.u X.k X.c)
      going_on =
          record {
            left = suc_inj (sym (fewer_then σ u k c l X.start) ∙ G.left);
            inv =
                step t u σ G.inv X.later (λ v p q. nothing_starts σ v (X.quiet v p q)) k c l X.start
                (G.lasting k X.start.job.range) (G.able.fit (rec σ k).task) (omega arith);
            able = G.able;
            lasting = lasting_after;
            by = G.by + w;
            now = omega (arith, X.soon);
            below = below_after;
            fits = omega (arith, G.fits);
            four_bytes = G.four_bytes;
            setting = G.setting;
            tasks = G.tasks;
            jobs = jobs_stay σ u k c l ∙ G.jobs;
            kept = kept_after;
            goes = G.goes ∙ start_some m t u k c σ X.found;
          }

  -- all have begun, and nothing more comes
  pub going_done : (t : ℕ) (σ : Run) → GoingTo σ₀ H w latest zero t σ → ((k : ℕ) → IsRecord σ k → Begun σ k) × (start_all (waiting σ₀) H σ₀ ≡ σ)
  going_done t σ G = (go (waits σ), G.goes ∙ start_zero t σ)
    where
      go : Waits σ → (k : ℕ) → IsRecord σ k → Begun σ k
      go (Waits.nobody z f) = f
      go (Waits.one n z a h f) = absurd (omega (arith, G.left))

  -- one start after the other, until none is left
  pub going_all : (m t : ℕ) (σ : Run) → GoingTo σ₀ H w latest m t σ → (v : ℕ) × (σ' : Run) × GoingTo σ₀ H w latest zero v σ'
  going_all zero t σ G = (t, σ, G)
  going_all (suc m) t σ G = let X = a_start m t σ G in going_all m X.u (starts σ X.u X.k X.c) (going_on m t σ G X)

-- No job of a carry ends later than 514,000,000. By 2,000,000 all is released that is ever released (a release is below H' + J), and what
-- began before H has ended (below H + W). From then on each of at most 512 jobs adds at most its W: if by some instant all is released and
-- whatever has begun has ended, every core is free, and of the jobs that are left the least of its task waits for no other, so that it is
-- ready, and one starts by then. From 2,000,000 on a core is free with nothing ready only while some job runs.
abbrev pub latest_end : ℕ
latest_end = most_horizon + most_time + most_jobs * most_time

abbrev pub Going : Run → ℕ → ℕ → ℕ → ℕ → Run → Type 0
Going σ₀ H w = GoingTo σ₀ H w latest_end
