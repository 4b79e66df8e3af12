-- Rule 5 is asked of the column of cores. Assumes nothing.
use Rattle.std.specs.Prelude.{option_map}
use mathlib.Core.Path.{◌∙◌, ap}
use native.Mathlib.Omega.{arith}
use Rattle.model.specs.Compute.Places.{one}
use Rattle.verdict.proofs.Tied.{column_is, core_tied}
use Rattle.verdict.proofs.asked.on_core.Goals as goal

pub returns : goal.returns
returns c ρ L e =
    ap (option_map one) c.core_place.ensures
    ∙ core_tied e (column_is L 5 (omega arith) (omega arith) c.column.ensures.0)
