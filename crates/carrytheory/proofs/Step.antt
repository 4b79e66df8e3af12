-- One job starts: what holds of the jobs that have begun and of those that wait, from one start to the next. Any ready job may start that
-- none outranks, on any free core, for any time from its B to its W that is not 0. Assumes nothing.
use Prim.Native.Nat.{ℕ, ◌≤◌, ◌<◌}
use mathlib.Core.Path.{◌≡◌, sym}
use mathlib.Core.Logic.{◌⊎◌, inl, inr, ⊎_elim}
use native.Mathlib.Omega.{arith}
use native.Mathlib.Decide.{ℕ_discrete, dec_le}
use Rattle.base.proofs.Test.{decides}
use Rattle.model.specs.Model.{Run, IsRecord, rec, task_of, rank}
use Rattle.model.specs.Rules.{Released, Lasted, IsCore, OnOneCore, Apart, Busy}
use Rattle.model.specs.Carry.{Begun, ReadyBy, begun, starts_for}
use Rattle.carrytheory.proofs.Readiness.{says_ready_by}
use Rattle.carrytheory.proofs.StartChanges.{is_record, still_record, here, elsewhere, rank_stays, still_ready, no_sooner_ready}
use Rattle.carrytheory.proofs.MayStart.{MayStart, NoneIdles, begun_other}

-- job a is ready by instant v and starts after it; while it waits, v comes before t
abbrev pub Waited : ℕ → Run → ℕ → ℕ → Type 0
Waited t σ a v = ReadyBy σ a v × (Begun σ a → v < (rec σ a).start) × (¬ Begun σ a → v < t)

-- the rank of job a is no greater than that of b, or b is not ready when a starts
abbrev pub NotPassed : Run → ℕ → ℕ → Type 0
NotPassed σ a b = (rank σ a ≤ rank σ b) ⊎ ¬ ReadyBy σ b (rec σ a).start

-- The rules, of the jobs that have begun by instant t; and what they ask of a job that waits.
pub record Inv (t : ℕ) (σ : Run) : Type 0 where
  pub releases : (k : ℕ) → IsRecord σ k → Released σ k
  pub started : (k : ℕ) → IsRecord σ k → Begun σ k → ReadyBy σ k (rec σ k).start
  pub lengths : (k : ℕ) → IsRecord σ k → Begun σ k → Lasted σ k
  pub cores : (k : ℕ) → IsRecord σ k → (rec σ k).core ≤ σ.setting.cores
  pub past : (k : ℕ) → IsRecord σ k → Begun σ k → (rec σ k).start ≤ t
  pub apart : (a b : ℕ) → a < b → IsRecord σ b → Begun σ a → OnOneCore σ a b → Apart σ a b
  pub order : (a b : ℕ) → IsRecord σ a → IsRecord σ b → Begun σ a → (Begun σ b → (rec σ a).start < (rec σ b).start) → NotPassed σ a b
  pub no_idling : (a : ℕ) → IsRecord σ a → (v : ℕ) → Waited t σ a v → (c : ℕ) → IsCore σ c → Busy σ c v

-- The step
-- --------
module _ (t u : ℕ) (σ : Run) (I : Inv t σ) (later : t ≤ u) (quiet : (v : ℕ) → t ≤ v → v < u → NoneIdles σ v)
    (k c l : ℕ) (S : MayStart σ u k c) (lasts : 1 ≤ l) (least : (task_of σ k).least ≤ l) (greatest : l ≤ (task_of σ k).greatest) where
  abbrev τ : Run
  τ = starts_for σ u k c l

  abbrev range : IsRecord σ k
  range = S.job.range

  abbrev waits : (rec σ k).core ≡ 0
  waits = S.job.can.0

  abbrev old : (a : ℕ) → IsRecord τ a → IsRecord σ a
  old = is_record σ u k c l

  abbrev same : rec τ k ≡ begun σ u k c l
  same = here σ u k c l range

  abbrev other : (a : ℕ) → ¬ (a ≡ k) → rec τ a ≡ rec σ a
  other = elsewhere σ u k c l

  -- a busy core stays busy
  still_busy : (d v : ℕ) → IsCore σ d → Busy σ d v → Busy τ d v
  still_busy d v i (j, h, e, p, q) =
      let o = other j (begun_other σ u k c S j (omega (arith, i))) in
      (j, still_record σ u k c l j h, rw o e, rw o p, rw o q)

  -- while a job waits, from when it is ready to u every core is busy
  all_busy : (a : ℕ) → IsRecord σ a → (rec σ a).core ≡ 0 → (v : ℕ) → ReadyBy σ a v → v < u → (d : ℕ) → IsCore σ d → Busy σ d v
  all_busy a h z v r m d i = go (dec_le t v)
    where
      go : Dec (t ≤ v) → Busy σ d v
      go (yes g) = quiet v g m a h (z, r) d i
      go (no g) = I.no_idling a h v (r, λ b. absurd (omega arith), λ b. omega (arith, g)) d i

  -- on the core that is taken, whatever has begun has ended
  ended : (a : ℕ) → IsRecord σ a → Begun σ a → (rec σ a).core ≡ c → (rec σ a).end ≤ u
  ended a h b e = go (dec_le (rec σ a).end u)
    where
      go : Dec ((rec σ a).end ≤ u) → (rec σ a).end ≤ u
      go (yes d) = d
      go (no d) = absurd (S.free (a, h, e, omega (arith, I.past a h b), omega (arith, d)))

  -- the job that starts goes before each that waits
  goes_first : (b : ℕ) → IsRecord σ b → (Begun σ b → u < (rec σ b).start) → (rank σ k ≤ rank σ b) ⊎ ¬ ReadyBy σ b u
  goes_first b h q = go (dec_le 1 (rec σ b).core) (decides (says_ready_by σ b u))
    where
      go : Dec (1 ≤ (rec σ b).core) → Dec (ReadyBy σ b u) → (rank σ k ≤ rank σ b) ⊎ ¬ ReadyBy σ b u
      go (yes p) r = absurd (omega (arith, q p, I.past b h p))
      go (no p) (no r) = inr r
      go (no p) (yes r) = inl (S.job.best b h (omega (arith, p), r))

  releases⁺ : (a : ℕ) → IsRecord τ a → Released τ a
  releases⁺ a h = go (ℕ_discrete a k)
    where
      go : Dec (a ≡ k) → Released τ a
      go (yes e) = rw (e, same) (I.releases k range)
      go (no f) = rw (other a f) (I.releases a (old a h))

  started⁺ : (a : ℕ) → IsRecord τ a → Begun τ a → ReadyBy τ a (rec τ a).start
  started⁺ a h b = go (ℕ_discrete a k)
    where
      go : Dec (a ≡ k) → ReadyBy τ a (rec τ a).start
      go (yes e) = rw (e, same) (still_ready σ u k c l range waits k u S.job.can.1)
      go (no f) = rw (other a f) (still_ready σ u k c l range waits a (rec σ a).start (I.started a (old a h) (rw (other a f) at b)))

  lengths⁺ : (a : ℕ) → IsRecord τ a → Begun τ a → Lasted τ a
  lengths⁺ a h = go (ℕ_discrete a k)
    where
      go : Dec (a ≡ k) → Begun τ a → Lasted τ a
      go (yes e) = rw (e, same) (λ b. (omega arith, omega arith, omega arith))
      go (no f) = rw (other a f) (I.lengths a (old a h))

  cores⁺ : (a : ℕ) → IsRecord τ a → (rec τ a).core ≤ σ.setting.cores
  cores⁺ a h = go (ℕ_discrete a k)
    where
      go : Dec (a ≡ k) → (rec τ a).core ≤ σ.setting.cores
      go (yes e) = rw (e, same) S.core.1
      go (no f) = rw (other a f) (I.cores a (old a h))

  past⁺ : (a : ℕ) → IsRecord τ a → Begun τ a → (rec τ a).start ≤ u
  past⁺ a h = go (ℕ_discrete a k)
    where
      go : Dec (a ≡ k) → Begun τ a → (rec τ a).start ≤ u
      go (yes e) = rw (e, same) (λ b. omega arith)
      go (no f) = rw (other a f) (λ b. omega (arith, I.past a (old a h) b))

  apart⁺ : (a b : ℕ) → a < b → IsRecord τ b → Begun τ a → OnOneCore τ a b → Apart τ a b
  apart⁺ a b m h = go (ℕ_discrete a k) (ℕ_discrete b k)
    where
      go : Dec (a ≡ k) → Dec (b ≡ k) → Begun τ a → OnOneCore τ a b → Apart τ a b
      go (yes d) (yes e) = absurd (omega arith)
      go (yes d) (no e) = rw (d, same, other b e) (λ p q. inr (ended b (old b h) (omega (arith, S.core.0)) (sym q)))
      go (no d) (yes e) = rw (other a d, e, same) (λ p q. inl (ended a (omega (arith, old b h)) p q))
      go (no d) (no e) = rw (other a d, other b e) (I.apart a b m (old b h))

  order⁺ : (a b : ℕ) → IsRecord τ a → IsRecord τ b → Begun τ a → (Begun τ b → (rec τ a).start < (rec τ b).start) → NotPassed τ a b
  order⁺ a b h m p q =
      let r = rank_stays σ u k c l range in
      rw (r a, r b) (⊎_elim inl (λ w. inr (λ R. w (no_sooner_ready σ u k c l range lasts b _ (past⁺ a h p) R))) (go (ℕ_discrete a k) (ℕ_discrete b k) p q))
    where
      go : Dec (a ≡ k) → Dec (b ≡ k) → Begun τ a → (Begun τ b → (rec τ a).start < (rec τ b).start) → (rank σ a ≤ rank σ b) ⊎ ¬ ReadyBy σ b (rec τ a).start
      go (yes d) (yes e) = λ p q. inl (rw (d, e) (omega arith))
      go (yes d) (no e) = rw (d, same, other b e) (λ p q. goes_first b (old b m) q)
      go (no d) (yes e) = rw (other a d, e) (λ p q. I.order a k (old a h) range p (λ w. absurd (omega (arith, waits))))
      go (no d) (no e) = rw (other a d, other b e) (I.order a b (old a h) (old b m))

  no_idling⁺ : (a : ℕ) → IsRecord τ a → (v : ℕ) → Waited u τ a v → (d : ℕ) → IsCore σ d → Busy τ d v
  no_idling⁺ a h v (r, p, q) d i =
      still_busy d v i (go (ℕ_discrete a k) (dec_le 1 (rec σ a).core) (no_sooner_ready σ u k c l range lasts a v early r) p q)
    where
      early : v ≤ u
      early = at (dec_le 1 (rec τ a).core)
        where
          at : Dec (Begun τ a) → v ≤ u
          at (yes b) = omega (arith, p b, past⁺ a h b)
          at (no b) = omega (arith, q b)

      go : Dec (a ≡ k) → Dec (Begun σ a) → ReadyBy σ a v → (Begun τ a → v < (rec τ a).start) → (¬ Begun τ a → v < u) → Busy σ d v
      go (yes e) g r = rw (e, same) (λ p q. all_busy k range waits v (rw e at r) (p S.core.0) d i)
      go (no f) (yes b) r = rw (other a f) (λ p q. I.no_idling a (old a h) v (r, p, λ w. absurd (w b)) d i)
      go (no f) (no b) r = rw (other a f) (λ p q. all_busy a (old a h) (omega (arith, b)) v r (q b) d i)

  pub step : Inv u (starts_for σ u k c l)
  step =
      record {
        releases = releases⁺;
        started = started⁺;
        lengths = lengths⁺;
        cores = cores⁺;
        past = past⁺;
        apart = apart⁺;
        order = order⁺;
        no_idling = no_idling⁺;
      }
