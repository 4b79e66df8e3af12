-- Rule 4 is asked of the columns of starts, ends, least and greatest times. Assumes nothing.
use Rattle.std.specs.Prelude.{option_map}
use mathlib.Core.Path.{◌∙◌, ap}
use native.Mathlib.Omega.{arith}
use Rattle.model.specs.Compute.Places.{one}
use Rattle.verdict.proofs.Tied.{column_is, length-tied}
use Rattle.verdict.proofs.asked.lasted.Goals as goal

pub returns : goal.returns
returns c ρ L =
    ap (option_map one) c.length_place.ensures
    ∙ length-tied (column_is L 3 (omega arith) (omega arith) c.column.ensures.0) (column_is L 4 (omega arith) (omega arith) c.column-2.ensures.0) (column_is L 8 (omega arith) (omega arith) c.column-3.ensures.0) (column_is L 9 (omega arith) (omega arith) c.column-4.ensures.0)
