-- Where a carry to H'' meets a carry to H' that is carried on: at instant H' the same stands in both. Assumes nothing.
use Prim.Native.Nat.{ℕ, ◌+◌, ◌-◌, ◌≤◌}
use mathlib.Core.Path.{◌≡◌, sym, subst, ◌∙◌, ap}
use native.Mathlib.Omega.{arith}
use Rattle.model.specs.Model.{Run, WithinLimits, most_horizon, most_jobs, total_jobs}
use Rattle.model.specs.Rules.{rule1, rule5, Obeys}
use Rattle.model.specs.Carry.{opening, carried}
use Rattle.model.specs.Compute.Jumps.{waiting, carry_by_starts}
use Rattle.carrytheory.proofs.ByStarts.{all_start, carried_by_starts}
use Rattle.carrytheory.proofs.CarryEnds.{good_tasks}
use Rattle.carrytheory.proofs.Demand3.{carried_setting, carried_tasks, carried_obeys, carried_within}
use Rattle.carrytheory.proofs.MoreJobs.{more_jobs}
use Rattle.carrytheory.proofs.RunsOn.{Later, later_all}
use Rattle.carrytheory.proofs.GoTogether.{Reached, walk}
use Rattle.carrytheory.proofs.OpenedAgain.{opened_again}
use Rattle.carrytheory.proofs.TwoOpenings.{two_openings, opening_settled}

module _ (ρ : Run) (H' H'' : ℕ) (L : WithinLimits ρ) (O : Obeys ρ) (longer : ρ.setting.horizon ≤ H') (further : H' ≤ H'') (most : H'' ≤ most_horizon)
    (few : total_jobs ρ.tasks H'' ≤ most_jobs) where
  abbrev χ : Run
  χ = carried ρ H'

  abbrev H : ℕ
  H = ρ.setting.horizon

  abbrev most' : H' ≤ most_horizon
  most' = omega arith

  abbrev few' : total_jobs ρ.tasks H' ≤ most_jobs
  few' = omega (arith, more_jobs ρ.tasks H' H'' (good_tasks ρ L) further)

  -- the two carries at instant H'
  reached : Reached H' H (opening ρ H') (opening ρ H'')
  reached =
      walk H' (omega arith) ((H' - H) + waiting (opening ρ H')) H (opening ρ H') (opening ρ H'') longer (omega arith)
      (two_openings ρ H' H'' O (good_tasks ρ L) longer further) (opening_settled ρ H' H'' O (good_tasks ρ L) longer further)

  -- the carried run has come of where the first carry stood at H'
  come_of : Later H' reached.shorter (carried ρ H')
  unfolding carry_by_starts
  come_of =
      subst (Later H' reached.shorter) (sym (carried_by_starts ρ H' ∙ reached.shorter_goes))
      (later_all (waiting reached.shorter) H' reached.shorter)

  horizon : (carried ρ H').setting.horizon ≡ H'
  horizon = ap (λ s. s.horizon) (carried_setting ρ H' L O longer most' few')

  opened : opening (carried ρ H') H'' ≡ reached.longer
  unfolding opening
  opened =
      let O' = carried_obeys ρ H' L O longer most' few' in
      let L' = carried_within ρ H' L O longer most' few' in
      let c : (carried ρ H').setting.cores ≡ ρ.setting.cores = ap (λ s. s.cores) (carried_setting ρ H' L O longer most' few') in
      opened_again χ reached.shorter reached.longer (O' rule1) (good_tasks χ L') (λ k h. (O' rule5 k h).0)
      (subst (λ v. Later v reached.shorter χ) (sym horizon) come_of)
      (rw horizon reached.still)
      (rw horizon reached.settled)
      (reached.tasks ∙ sym (carried_tasks ρ H' L O longer most' few'))
      H'' (reached.setting ∙ (λ κ. record { cores = sym c κ; horizon = H'' }))

  -- so both go on alike
  pub meet : carry_by_starts (carried ρ H') H'' ≡ carry_by_starts ρ H''
  unfolding carry_by_starts
  meet = (λ κ. all_start (horizon κ) (opened κ)) ∙ sym reached.longer_goes
