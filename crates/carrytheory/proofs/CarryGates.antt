-- When a carry writes: its gates let through exactly the files whose run obeys the rules, with an H' from H to 1,000,000, at most 512
-- jobs at H' and room for the output. Assumes nothing.
use Prim.Native.Nat.{ℕ, ◌≤◌}
use mathlib.Core.Path.{◌≡◌, refl}
use native.Mathlib.Omega.{arith}
use mathlib.Core.List.{List}
use lib.ListN.{length}
use Rattle.base.proofs.Test.{says_leb, says_and, says_true}
use Rattle.model.specs.Model.{Run, most_horizon, most_jobs, total_jobs}
use Rattle.model.specs.File.{bytes, Read, refused, whole, read}
use Rattle.model.specs.Rules.{Obeys}
use Rattle.model.specs.Answers.{written_out}
use Rattle.model.specs.Compute.Verdict.{verdict}
use Rattle.model.specs.Carry.{carried, carry_run, carry_of, carry}
use Rattle.model.proofs.Demand2.{accepted_exactly_if_obeyed}
use Rattle.model.proofs.Gates.{gate_opens, gate_opened}

-- what each gate asks
pub record Passes (ρ : Run) (H' room : ℕ) : Type 0 where
  pub longer : ρ.setting.horizon ≤ H'
  pub most : H' ≤ most_horizon
  pub few : total_jobs ρ.tasks H' ≤ most_jobs
  pub obeys : Obeys ρ
  pub fits : length (bytes (carried ρ H')) ≤ room

module _ (ρ : Run) (H' room : ℕ) where
  pub passes_writes : Passes ρ H' room → carry_run ρ H' room ≡ written_out (bytes (carried ρ H'))
  unfolding carry_run
  passes_writes P =
      gate_opens 9 _ _ _ (says_true (says_and (says_leb ρ.setting.horizon H') (says_leb H' most_horizon)) (P.longer, P.most))
      (gate_opens 6 _ _ _ (says_true (says_leb (total_jobs ρ.tasks H') most_jobs) P.few)
      (gate_opens 10 _ _ _ (says_true (says_leb (verdict ρ).answer 2) ((accepted_exactly_if_obeyed ρ).1 P.obeys))
      (gate_opens 11 _ _ _ (says_true (says_leb (length (bytes (carried ρ H'))) room) P.fits) refl)))

  writes_passes : (carry_run ρ H' room).told.answer ≡ 5 → Passes ρ H' room
  unfolding carry_run
  writes_passes e =
      let (t₁, e₁) = gate_opened _ _ _ e in
      let (t₂, e₂) = gate_opened _ _ _ e₁ in
      let (t₃, e₃) = gate_opened _ _ _ e₂ in
      let (t₄, e₄) = gate_opened _ _ _ e₃ in
      let (l, m) = (says_and (says_leb ρ.setting.horizon H') (says_leb H' most_horizon)).sound t₁ in
      record {
        longer = l;
        most = m;
        few = (says_leb (total_jobs ρ.tasks H') most_jobs).sound t₂;
        obeys = (accepted_exactly_if_obeyed ρ).0 ((says_leb (verdict ρ).answer 2).sound t₃);
        fits = (says_leb (length (bytes (carried ρ H'))) room).sound t₄;
      }

-- Of files
-- --------
pub carry_passes : (b : List ℕ) (H' room : ℕ) (ρ : Run) → read b ≡ whole ρ → Passes ρ H' room → carry b H' room ≡ written_out (bytes (carried ρ H'))
unfolding carry
carry_passes b H' room ρ q P = rw q (passes_writes ρ H' room P)

-- the run that a carry which answers 5 has read
pub record Carries (b : List ℕ) (H' room : ℕ) : Type 0 where
  pub run : Run
  pub reads : read b ≡ whole run
  pub passes : Passes run H' room

pub carries : (b : List ℕ) (H' room : ℕ) → (carry b H' room).told.answer ≡ 5 → Carries b H' room
unfolding carry
carries b H' room e = go (read b) refl e
  where
    go : (r : Read) → read b ≡ r → (carry_of r H' room).told.answer ≡ 5 → Carries b H' room
    go (refused ν i) q e = absurd (omega arith)
    go (whole ρ) q e = record { run = ρ; reads = q; passes = writes_passes ρ H' room e }
