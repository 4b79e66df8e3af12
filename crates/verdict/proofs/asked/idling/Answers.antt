-- Rule 8 is asked of the columns of ready instants, starts, ends and cores. Assumes nothing.
use Rattle.std.specs.Prelude.{option_map}
use mathlib.Core.Path.{◌∙◌, ap}
use native.Mathlib.Omega.{arith}
use Rattle.model.specs.Compute.Places.{three}
use Rattle.verdict.proofs.Tied.{column_is, idle_tied}
use Rattle.verdict.proofs.asked.idling.Goals as goal

pub returns : goal.returns
returns c ρ L e =
    ap (option_map three) c.idle_place.ensures
    ∙ idle_tied (column_is L 3 (omega arith) (omega arith) c.column-2.ensures.0) (column_is L 4 (omega arith) (omega arith) c.column-3.ensures.0) (column_is L 5 (omega arith) (omega arith) c.column-4.ensures.0) e (column_is L 12 (omega arith) (omega arith) c.column.ensures.0)
