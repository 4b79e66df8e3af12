-- When a core is busy, and when it idles. Assumes nothing.
use Prim.Native.Nat.{ℕ, ◌+◌, ◌≤◌, ◌<◌}
use mathlib.Core.Path.{◌≡◌, refl, sym}
use mathlib.Core.Bool.{Bool, true, false, not, true≢false}
use mathlib.Core.List.{List}
use native.Mathlib.Omega.{arith}
use lib.ListN.{length, get_or}
use Rattle.base.specs.Find.{found}
use Rattle.base.proofs.Test.{Says, says_leb, says_ltb, says_eqb, says_and, says_true}
use Rattle.base.proofs.Searches.{Finds, first_finds, found_says}
use Rattle.idle.specs.FirstFrom.{FirstFrom, Among}
use Rattle.idle.specs.Idle.{Runs, holds_in, busy_in, idle_core_in, BusyFrom}
use Rattle.idle.proofs.FirstFrom.{first_same}

pub not-true : {b : Bool} → ¬ (b ≡ true) → b ≡ false
not-true {b = true} h = absurd (h refl)
not-true {b = false} h = refl

module _ (ss es cs : List ℕ) where
  abbrev pub RunsIn : ℕ → ℕ → ℕ → Type 0
  RunsIn c k t = Runs (get_or ss k 0) (get_or es k 0) (get_or cs k 0) c t

  pub says_holds : (c t k : ℕ) → Says (holds_in ss es cs c t k) (RunsIn c k t)
  unfolding holds_in
  says_holds c t k = says_and (says_eqb (get_or cs k 0) c) (says_and (says_leb (get_or ss k 0) t) (says_ltb t (get_or es k 0)))

  says_busy : (c t : ℕ) → Says (busy_in ss es cs c t) ((k : ℕ) × ((0 ≤ k) × (k < 0 + length ss) × RunsIn c k t))
  unfolding busy_in
  says_busy c t = found_says (first_finds (holds_in ss es cs c t) (λ k. RunsIn c k t) (says_holds c t) 0 (length ss))

  pub busy_runs : (c t : ℕ) → busy_in ss es cs c t ≡ true → Among (RunsIn c) (length ss) t
  busy_runs c t e = let (k, (w, l, h)) = (says_busy c t).sound e in (k, (omega arith, h))

  pub runs_busy : (c t : ℕ) → Among (RunsIn c) (length ss) t → busy_in ss es cs c t ≡ true
  runs_busy c t (k, (l, h)) = says_true (says_busy c t) (k, (omega arith, omega arith, h))

  pub busy_from : {c t r n : ℕ} → n ≡ length ss → FirstFrom (Among (RunsIn c) n) t r → BusyFrom ss es cs c t r
  busy_from {c} e F = first_same (runs_busy c) (busy_runs c) (rw e at F)

  -- the least idle core
  abbrev Idles : ℕ → ℕ → ℕ → Type 0
  Idles N t c = (1 ≤ c) × (c < 1 + N) × (busy_in ss es cs c t ≡ false)

  idle_finds : (N t : ℕ) → Finds ◌<◌ (Idles N t) (idle_core_in ss es cs N t)
  unfolding idle_core_in
  idle_finds N t = first_finds (λ c. not (busy_in ss es cs c t)) (λ c. busy_in ss es cs c t ≡ false) (λ c. says_idle (busy_in ss es cs c t)) 1 N
    where
      says_idle : (b : Bool) → Says (not b) (b ≡ false)
      says_idle true = record { sound = λ e. absurd (true≢false (sym e)); refutes = λ _ e. true≢false e }
      says_idle false = record { sound = λ _. refl; refutes = λ e. absurd (true≢false e) }

  pub some_idles : (N t : ℕ) → found (idle_core_in ss es cs N t) ≡ true → (c : ℕ) × Idles N t c
  some_idles N t e = (found_says (idle_finds N t)).sound e

  pub idles_found : (N t c : ℕ) → 1 ≤ c → c ≤ N → busy_in ss es cs c t ≡ false → found (idle_core_in ss es cs N t) ≡ true
  idles_found N t c l h e = says_true (found_says (idle_finds N t)) (c, (l, omega arith, e))
