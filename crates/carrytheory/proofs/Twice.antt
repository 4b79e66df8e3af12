-- Carrying a run to H' and then to H'' is carrying it to H''. Assumes nothing.
use Prim.Native.Nat.{ℕ, ◌≤◌}
use mathlib.Core.Path.{◌≡◌, sym, subst, ◌∙◌, ap}
use mathlib.Core.List.{List}
use Rattle.model.specs.Model.{Run, WithinLimits, most_horizon, most_jobs, total_jobs}
use Rattle.model.specs.Rules.{Obeys}
use Rattle.model.specs.File.{whole, read, bytes}
use Rattle.model.specs.Carry.{carried, carry}
use Rattle.model.specs.Answers.{written_out}
use Rattle.model.proofs.Reading.{read_limits}
use Rattle.carrytheory.proofs.ByStarts.{carried_by_starts}
use Rattle.carrytheory.proofs.CarryGates.{Passes, carries, carry_passes}
use Rattle.carrytheory.proofs.Demand3.{carried_setting, carried_tasks, carried_obeys, carried_reads}
use Rattle.carrytheory.proofs.Meet.{meet}

-- Of a run within all limits that obeys the rules, from H over H' to an H'' at which the jobs fit.
pub twice_is_once : (ρ : Run) (H' H'' : ℕ) → WithinLimits ρ → Obeys ρ → ρ.setting.horizon ≤ H' → H' ≤ H'' → H'' ≤ most_horizon
    → total_jobs ρ.tasks H'' ≤ most_jobs → carried (carried ρ H') H'' ≡ carried ρ H''
twice_is_once ρ H' H'' L O longer further most few =
    carried_by_starts (carried ρ H') H'' ∙ meet ρ H' H'' L O longer further most few ∙ sym (carried_by_starts ρ H'')

-- Of files
-- --------

-- What stands in the way of neither carry alone stands in the way of the second after the first.
passes_again : (ρ : Run) (H' H'' room' room'' : ℕ) → WithinLimits ρ → Passes ρ H' room' → Passes ρ H'' room'' → H' ≤ H'' → Passes (carried ρ H') H'' room''
passes_again ρ H' H'' room' room'' L P Q further =
    let s = carried_setting ρ H' L P.obeys P.longer P.most P.few in
    let t = carried_tasks ρ H' L P.obeys P.longer P.most P.few in
    let once = twice_is_once ρ H' H'' L P.obeys P.longer further Q.most Q.few in
    record {
      longer = rw s further;
      most = Q.most;
      few = rw t Q.few;
      obeys = carried_obeys ρ H' L P.obeys P.longer P.most P.few;
      fits = rw once Q.fits;
    }

same_run : {ρ σ : Run} → whole ρ ≡ whole σ → ρ ≡ σ
same_run {ρ} {σ} e = cc

run_twice : (b : List ℕ) (ρ : Run) (H' H'' room' room'' : ℕ) → read b ≡ whole ρ → Passes ρ H' room' → Passes ρ H'' room'' → H' ≤ H''
    → carry (carry b H' room').writes H'' room'' ≡ carry b H'' room''
unfolding written_out
run_twice b ρ H' H'' room' room'' q P Q further =
    let L = read_limits b ρ q in
    let χ : Run = carried ρ H' in
    let reads = carried_reads ρ H' L P.obeys P.longer P.most P.few in
    ap (λ o. carry o.writes H'' room'') (carry_passes b H' room' ρ q P)
    ∙ carry_passes (bytes χ) H'' room'' χ reads (passes_again ρ H' H'' room' room'' L P Q further)
    ∙ ap (λ σ. written_out (bytes σ)) (twice_is_once ρ H' H'' L P.obeys P.longer further Q.most Q.few)
    ∙ sym (carry_passes b H'' room'' ρ q Q)

-- Where a file is carried to H' and to H'', carrying what the first carry writes to H'' says and writes what the second does.
pub carry_twice_is_once : (b : List ℕ) (H' H'' room' room'' : ℕ) → (carry b H' room').told.answer ≡ 5 → (carry b H'' room'').told.answer ≡ 5 → H' ≤ H''
    → carry (carry b H' room').writes H'' room'' ≡ carry b H'' room''
carry_twice_is_once b H' H'' room' room'' e' e'' further =
    let C = carries b H' room' e' in
    let D = carries b H'' room'' e'' in
    let one-run : D.run ≡ C.run = same_run (sym D.reads ∙ C.reads) in
    run_twice b C.run H' H'' room' room'' C.reads C.passes (subst (λ ρ. Passes ρ H'' room'') one-run D.passes) further
