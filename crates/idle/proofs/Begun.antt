-- From when on each core has begun, one core after the other. Assumes nothing.
use Prim.Native.Nat.{ℕ, suc, ◌+◌, ◌≤◌, ◌<◌, max}
use mathlib.Core.Path.{◌≡◌}
use mathlib.Core.Logic.{◌⊎◌, inl, inr}
use mathlib.Core.Bool.{false}
use mathlib.Core.List.{List}
use native.Mathlib.Decide.{dec_lt}
use native.Mathlib.Omega.{arith}
use Rattle.base.proofs.Find.{here_or_on}
use Rattle.idle.specs.Idle.{busy_in, BusyFrom, Begun}
use Rattle.idle.proofs.Busy.{not-true}

module _ (ss es cs : List ℕ) where
  pub begun_yet : Begun ss es cs 1 0
  begun_yet = record { each = λ c l h. absurd (omega arith); before = λ x h. absurd (omega arith) }

  pub begun_on : {m b f r : ℕ} → 1 ≤ m → Begun ss es cs m b → BusyFrom ss es cs m 0 f → r ≡ max b f → Begun ss es cs (m + 1) r
  begun_on {m} {b} {f} {r} l B F e = record { each = λ c u v. each c u (here_or_on c m (omega arith)); before = λ x h. before x h (dec_lt x b) }
    where
      each : (c : ℕ) → 1 ≤ c → (m ≡ c) ⊎ (suc c ≤ m) → (x : ℕ) × ((x ≤ r) × BusyFrom ss es cs c 0 x)
      each c u (inl z) = (f, (omega arith, rw z at F))
      each c u (inr z) = let (x, (h, G)) = B.each c u z in (x, (omega arith, G))

      before : (x : ℕ) → x < r → Dec (x < b) → (c : ℕ) × ((1 ≤ c) × ((c < m + 1) × (busy_in ss es cs c x ≡ false)))
      before x h (yes d) = let (c, (u, (v, q))) = B.before x d in (c, (u, (omega arith, q)))
      before x h (no d) = (m, (l, (omega arith, not-true (F.clear x (omega arith) (omega (arith, d))))))
