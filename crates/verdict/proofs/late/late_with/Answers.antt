-- One record more: in time, or late and begun before the horizon or not. Assumes nothing.
use mathlib.Core.Path.{◌∙◌}
use native.Mathlib.Omega.{arith}
use Rattle.verdict.proofs.Lateness.{in_time_on, late_on, early_on, early_kept}
use Rattle.verdict.proofs.late.late_with.Goals as goal
use Rattle.verdict.proofs.late.late_with.Goals.{then-start-horizon, else-start-horizon}

pub returns-then-end-due : goal.returns-then-end-due
returns-then-end-due c ds ss es d s e L = in_time_on _ _ _ _ L (omega arith)

pub returns : goal.returns
returns c ds ss es d s e L =
    late_on _ _ _ _ L (omega arith) c.or.ensures
    (elim c.if-start-horizon.branch [
      | then-start-horizon w ↦ early_on _ _ _ _ L (omega arith) (omega arith) (w.early-is ∙ w.or-early.ensures)
      | else-start-horizon w ↦ early_kept _ _ _ _ L (omega arith) w.early-is
    ])
