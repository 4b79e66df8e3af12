-- The next instant at which a job starts, found without looking at each: before it no job that waits is ready, or no core is free.
-- Assumes nothing.
use Rattle.std.specs.Prelude.{None, Some}
use Prim.Native.Nat.{ℕ, suc, ◌+◌, ◌^◌, ◌≤◌, ◌<◌, max}
use mathlib.Core.Path.{◌≡◌, sym, ◌∙◌}
use mathlib.Core.Logic.{◌⊎◌, inl, inr}
use native.Mathlib.Omega.{arith}
use native.Mathlib.Decide.{dec_le}
use Rattle.base.proofs.Find.{Answers, answers, some≢none}
use Rattle.model.specs.Model.{Run, IsRecord, rec, ready}
use Rattle.model.specs.Rules.{IsCore, Busy}
use Rattle.model.specs.Carry.{BegunBefore, starts, instants_from}
use Rattle.model.specs.Compute.Jumps.{start_at, next_start}
use Rattle.carrytheory.proofs.Readiness.{ready_by_lem}
use Rattle.carrytheory.proofs.MayStart.{start_at_lem}
use Rattle.carrytheory.proofs.Begin.{GoingTo, going_on}

module _ (σ : Run) where
  -- e is the latest end on core c, or 0 where nothing has begun
  pub record LastEnd (c e : ℕ) : Type 0 where
    pub none_later : (k : ℕ) → IsRecord σ k → (rec σ k).core ≡ c → (rec σ k).end ≤ e
    pub reached : (e ≡ 0) ⊎ ((k : ℕ) × IsRecord σ k × ((rec σ k).core ≡ c) × ((rec σ k).end ≡ e))

  -- f is the least of the cores' last ends
  pub record LeastFree (f : ℕ) : Type 0 where
    pub core : ℕ
    pub core_is : IsCore σ core
    pub here : LastEnd core f
    pub least : (d : ℕ) → IsCore σ d → (e : ℕ) × LastEnd d e × (f ≤ e)

module _ (σ₀ : Run) (H w : ℕ) {latest : ℕ} (m t : ℕ) (σ : Run) (G : GoingTo σ₀ H w latest (suc m) t σ) (f : ℕ) (F : LeastFree σ f) where
  -- on a core that is free at an instant from t on, every last end is past
  free_ended : (v c : ℕ) → t ≤ v → IsCore σ c → ¬ Busy σ c v → f ≤ v
  free_ended v c l i b = go (F.least c i)
    where
      go : (e : ℕ) × LastEnd σ c e × (f ≤ e) → f ≤ v
      go (e, E, h) = at (dec_le e v) E.reached
        where
          at : Dec (e ≤ v) → (e ≡ 0) ⊎ ((k : ℕ) × IsRecord σ k × ((rec σ k).core ≡ c) × ((rec σ k).end ≡ e)) → f ≤ v
          at (yes d) r = omega arith
          at (no d) (inl z) = omega (arith, d)
          at (no d) (inr (k, g, x, y)) = absurd (b (k, g, x, omega (arith, G.inv.past k g (omega (arith, x, i.0))), omega (arith, d)))

  -- a job is ready and a core free before what starts then would end at an instant of more than four bytes
  pub ready_soon : (k : ℕ) → IsRecord σ k → max (max t f) (ready σ k) ≤ G.by
  ready_soon k h = go F.here.reached
    where
      go : (f ≡ 0) ⊎ ((j : ℕ) × IsRecord σ j × ((rec σ j).core ≡ F.core) × ((rec σ j).end ≡ f)) → max (max t f) (ready σ k) ≤ G.by
      go (inl z) = omega (arith, G.now, ready_by_lem σ G.by G.below k h)
      go (inr (j, l, x, y)) = omega (arith, G.now, ready_by_lem σ G.by G.below k h, G.below j l)

  pub ready_fits : (k : ℕ) → IsRecord σ k → max (max t f) (ready σ k) + w < 2 ^ 32
  ready_fits k h = omega (arith, ready_soon k h, G.fits, G.four_bytes)

  -- Job k starts at u on core c, and no job that waits, and that can once it is ready, is ready sooner: the carry goes on from there.
  module _ (u k c : ℕ) (start : start_at σ u ≡ Some (k, c)) (now : max (max t f) (ready σ k) ≡ u)
      (least : (j : ℕ) → IsRecord σ j → (rec σ j).core ≡ 0 → BegunBefore σ j → u ≤ max (max t f) (ready σ j)) where
    no_sooner : (v j d : ℕ) → t ≤ v → start_at σ v ≡ Some (j, d) → u ≤ v
    no_sooner v j d l e =
        let S = start_at_lem σ v j d e in
        let R = S.job.can.1 in
        omega (arith, least j S.job.range S.job.can.0 R.begun_before, R.instant, free_ended v d l S.core S.free)

    soon : u ≤ G.by
    soon = rw now at (ready_soon k (start_at_lem σ u k c start).job.range)

    next_there : (next_start σ t ≡ Some (u, (k, c))) × ((v : ℕ) → t ≤ v → v < u → start_at σ v ≡ None)
    unfolding next_start
    next_there = go (answers (start_at σ) (instants_from t) t)
      where
        go : Answers (start_at σ) t (instants_from t) → (next_start σ t ≡ Some (u, (k, c))) × ((v : ℕ) → t ≤ v → v < u → start_at σ v ≡ None)
        go (Answers.nothing e g) = absurd (some≢none (sym start ∙ g u (omega arith) (omega (arith, soon, G.fits, G.four_bytes))))
        go (Answers.finds v (j, d) e a b r g) = (e ∙ cc same, λ z p q. g z p (omega (arith, same)))
          where
            early : Dec (v ≤ u) → v ≤ u
            early (yes h) = h
            early (no h) = absurd (some≢none (sym start ∙ g u (omega arith) (omega (arith, h))))

            same : v ≡ u
            same = omega (arith, early (dec_le v u), no_sooner v j d a r)

    pub starts_there : GoingTo σ₀ H w latest m u (starts σ u k c)
    starts_there =
        going_on σ₀ H w m t σ G
        (record {
          u = u;
          k = k;
          c = c;
          found = next_there.0;
          later = omega arith;
          soon = soon;
          quiet = next_there.1;
          start = start_at_lem σ u k c start;
        })
