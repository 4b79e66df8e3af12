-- Rule 7 is asked of the columns of ranks, ready instants and starts. Assumes nothing.
use Rattle.std.specs.Prelude.{option_map}
use mathlib.Core.Path.{◌∙◌, ap}
use native.Mathlib.Omega.{arith}
use Rattle.model.specs.Compute.Places.{two}
use Rattle.verdict.proofs.Tied.{column_is, order_tied}
use Rattle.verdict.proofs.asked.out_of_order.Goals as goal

pub returns : goal.returns
returns c ρ L =
    ap (option_map two) c.order_place.ensures
    ∙ order_tied (column_is L 11 (omega arith) (omega arith) c.column.ensures.0) (column_is L 12 (omega arith) (omega arith) c.column-2.ensures.0) (column_is L 3 (omega arith) (omega arith) c.column-3.ensures.0)
