-- One turn of the carry: the job that is chosen is the next to start, on the core that is taken. Assumes nothing.
use Rattle.std.specs.Prelude.{Some}
use Prim.Native.Nat.{ℕ, suc, ◌+◌, ◌-◌, ◌^◌, ◌≤◌, ◌<◌, max}
use mathlib.Core.Path.{◌≡◌, sym, ◌∙◌, ap, subst}
use mathlib.Core.Logic.{◌⊎◌, inl, inr}
use mathlib.Core.List.{List}
use native.Mathlib.Omega.{arith}
use native.Mathlib.Decide.{ℕ_discrete, dec_le, dec_lt}
use lib.ListN.{get_or}
use Rattle.base.specs.First.{Lex}
use Rattle.model.specs.Model.{Run, IsRecord, rec, job_of, ready, rank, most_cores}
use Rattle.model.specs.Rules.{Jobs}
use Rattle.model.specs.Carry.{Begun, BegunBefore, next, starts}
use Rattle.model.specs.Compute.Jumps.{start_at}
use Rattle.model.proofs.Jobs.{Lower}
use Rattle.carrytheory.proofs.Recorded.{records_rise, one_record}
use Rattle.carrytheory.proofs.Preceding.{JustBefore, preceding_is, not_first, record_before, before_record}
use Rattle.carrytheory.proofs.Waiting.{Waits, waits}
use Rattle.carrytheory.proofs.MayStart.{CanStart, GoesBefore, IsNext, next_iff}
use Rattle.carrytheory.proofs.Begin.{Going}
use Rattle.carrytheory.proofs.NextInstant.{ready_fits, starts_there}
use Rattle.table.specs.Table.{Lent, columns, column_of}
use Rattle.starts.specs.Choice.{NoLater, HasTurn, Chosen}
use Rattle.starts.specs.Cores.{LeastOf}
use Rattle.starts.specs.CoreGiven.{Takes}
use Rattle.starts.specs.declared.cores.Cores.{Cores}
use Rattle.starts.proofs.State.{job_of_lem, core_of, rank_of, ready_of}
use Rattle.starts.proofs.LastEnds.{Ends, least_free, idle_core_lem}

-- Records stand in order of task and job
-- --------------------------------------
module _ (σ : Run) (J : Jobs σ) where
  not_lower : (k j : ℕ) → k ≤ j → IsRecord σ j → ¬ Lex ◌<◌ (job_of (rec σ j)) (job_of (rec σ k))
  not_lower k j l h = go (ℕ_discrete k j)
    where
      clash : Lower (job_of (rec σ k)) (job_of (rec σ j)) → ¬ Lex ◌<◌ (job_of (rec σ j)) (job_of (rec σ k))
      clash (inl a) (inl b) = omega arith
      clash (inl a) (inr b) = omega arith
      clash (inr a) (inl b) = omega arith
      clash (inr a) (inr b) = omega arith

      go : Dec (k ≡ j) → ¬ Lex ◌<◌ (job_of (rec σ j)) (job_of (rec σ k))
      go (no f) = clash (records_rise σ J k j (omega (arith, f)) h)
      go (yes e) = rw e (λ w. same w)
        where
          same : ¬ Lex ◌<◌ (job_of (rec σ j)) (job_of (rec σ j))
          same (inl a) = omega arith
          same (inr a) = omega arith

-- Whose turn it is
-- ----------------
module _ {σ : Run} (J : Jobs σ) {t : List ℕ} {n : ℕ} (T : Lent columns σ t n) where
  range : (k : ℕ) → k < n → IsRecord σ k
  range k l = omega (arith, T.count)

  -- the first record is of its task's first job
  pub first_job_lem : get_or (column_of n t 1) 0 0 ≡ 0
  first_job_lem = go (dec_lt 0 n)
    where
      go : Dec (0 < n) → get_or (column_of n t 1) 0 0 ≡ 0
      go (yes l) = job_of_lem T 0 l ∙ first (dec_le 1 (rec σ 0).job)
        where
          first : Dec (1 ≤ (rec σ 0).job) → (rec σ 0).job ≡ 0
          first (yes b) = absurd (omega (arith, not_first σ J 0 (range 0 l) b))
          first (no b) = omega (arith, b)
      go (no l) = let z : n ≡ 0 = omega (arith, l) in ap (λ m. get_or (column_of m t 1) 0 0) z

  -- a job that has not begun and whose preceding job, if there is one, has
  pub turn_begun : (k : ℕ) → k < n → HasTurn (column_of n t 5) (column_of n t 1) k → ((rec σ k).core ≡ 0) × BegunBefore σ k
  turn_begun k l (c, why) = (sym (core_of T k l) ∙ c, λ p e. go why p (before_record σ J k p (range k l) e) (preceding_is σ k p e))
    where
      go : (get_or (column_of n t 1) k 0 ≡ 0) ⊎ ¬ (get_or (column_of n t 5) (k - 1) 0 ≡ 0) → (p : ℕ) → suc p ≡ k → JustBefore σ p k → Begun σ p
      go (inl z) p e B = absurd (omega (arith, B.one_less, job_of_lem T k l))
      go (inr f) p e B =
          let w : k - 1 ≡ p = omega arith in
          let q = rw w at f in
          omega (arith, q, core_of T p (omega arith))

  pub begun_turn : (k : ℕ) → k < n → (rec σ k).core ≡ 0 → BegunBefore σ k → HasTurn (column_of n t 5) (column_of n t 1) k
  begun_turn k l z b = (core_of T k l ∙ z, go (dec_le 1 (rec σ k).job))
    where
      go : Dec (1 ≤ (rec σ k).job) → (get_or (column_of n t 1) k 0 ≡ 0) ⊎ ¬ (get_or (column_of n t 5) (k - 1) 0 ≡ 0)
      go (no f) = inl (omega (arith, f, job_of_lem T k l))
      go (yes f) =
          let one = not_first σ J k (range k l) f in
          let c = b (k - 1) (record_before σ J k (k - 1) (range k l) f (omega arith)) in
          inr (λ w. omega (arith, core_of T (k - 1) (omega arith)))

-- What starts
-- -----------
module _ {σ : Run} (J : Jobs σ) {t : List ℕ} {n : ℕ} (T : Lent columns σ t n) {v u k : ℕ}
    (C : Chosen n v (column_of n t 5) (column_of n t 1) (column_of n t 12) (column_of n t 11) u k) where
  pub chosen_record : IsRecord σ k
  chosen_record = omega (arith, C.range, T.count)

  pub chosen_waits : (rec σ k).core ≡ 0
  chosen_waits = (turn_begun J T k C.range C.turn).0

  pub chosen_ready : max v (ready σ k) ≡ u
  chosen_ready = omega (arith, C.at, ready_of T k C.range)

  -- of the jobs whose turn it is
  from_chosen : (j : ℕ) → IsRecord σ j → (rec σ j).core ≡ 0 → BegunBefore σ j → NoLater u (rank σ k) k (max v (ready σ j)) (rank σ j) j
  from_chosen j h z b =
      let r : j < n = omega (arith, T.count) in
      rw (rank_of T k C.range, rank_of T j r, ready_of T j r) at (C.first j r (begun_turn J T j r z b))

  pub chosen_least : (j : ℕ) → IsRecord σ j → (rec σ j).core ≡ 0 → BegunBefore σ j → u ≤ max v (ready σ j)
  chosen_least j h z b = go (from_chosen j h z b)
    where
      go : NoLater u (rank σ k) k (max v (ready σ j)) (rank σ j) j → u ≤ max v (ready σ j)
      go (inl l) = omega arith
      go (inr l) = omega (arith, l.0)

  is_next : IsNext σ u k
  is_next =
      record {
        range = chosen_record;
        can = (chosen_waits, record { begun_before = (turn_begun J T k C.range C.turn).1; instant = omega (arith, chosen_ready) });
        first = λ j h w. go j h w (from_chosen j h w.0 w.1.begun_before);
      }
    where
      go : (j : ℕ) → IsRecord σ j → CanStart σ u j → NoLater u (rank σ k) k (max v (ready σ j)) (rank σ j) j → ¬ GoesBefore σ j k
      go j h w (inl l) b = omega (arith, w.1.instant, chosen_ready)
      go j h w (inr (e, inl l)) (inl b) = omega arith
      go j h w (inr (e, inl l)) (inr b) = omega (arith, b.0)
      go j h w (inr (e, inr l)) (inl b) = omega (arith, l.0)
      go j h w (inr (e, inr l)) (inr b) = not_lower σ J k j l.1 h b.1

-- The job that is chosen starts on the core that is taken.
module _ {σ₀ σ : Run} {H w m v : ℕ} (G : Going σ₀ H w m v σ) {t : List ℕ} {n : ℕ} (T : Lent columns σ t n) (J : Jobs σ) {N : ℕ}
    (cores : N ≡ σ.setting.cores) {xs : List ℕ} (E : Ends σ xs) {f : ℕ} (F : LeastOf xs (N + 1) f) {u k : ℕ}
    (C : Chosen n (max v f) (column_of n t 5) (column_of n t 1) (column_of n t 12) (column_of n t 11) u k) where
  few : N ≤ most_cores
  few = omega (arith, T.limits.setting.cores)

  -- so that one more had not begun
  one_less : (i : ℕ) × (m ≡ suc i)
  one_less = go (waits σ)
    where
      go : Waits σ → (i : ℕ) × (m ≡ suc i)
      go (Waits.nobody z g) = absurd (omega (arith, g k (chosen_record J T C), chosen_waits J T C))
      go (Waits.one i z j h c) = (i, sym G.left ∙ z)

  going : Going σ₀ H w (suc one_less.0) v σ
  going = subst (λ m. Going σ₀ H w m v σ) one_less.1 G

  -- it ends at an instant of four bytes
  pub turn_fits : u + w < 2 ^ 32
  turn_fits =
      rw (chosen_ready J T C) at (ready_fits σ₀ H w one_less.0 v σ going f (least_free E cores few F) k (chosen_record J T C))

  pub turn : {e c : ℕ} {R : Cores} → Takes xs N u e c R → (i : ℕ) × (m ≡ suc i) × Going σ₀ H w i u (starts σ u k c)
  unfolding start_at
  turn {e} {c} {R} K = (
    one_less.0,
    one_less.1,
    starts_there σ₀ H w one_less.0 v σ going f (least_free E cores few F) u k c start_here (chosen_ready J T C) (chosen_least J T C),
  )
    where
      start_here : start_at σ u ≡ Some (k, c)
      start_here =
          let p : next σ u ≡ Some k = (next_iff σ (one_record σ J) u k).1 (is_next J T C) in
          let q = idle_core_lem E cores few K (λ j h b. omega (arith, G.inv.past j h b, C.at)) in
          rw (p, q)
