-- Rule 6 is asked of the columns of starts, ends and cores. Assumes nothing.
use Rattle.std.specs.Prelude.{option_map}
use mathlib.Core.Path.{◌∙◌, ap}
use native.Mathlib.Omega.{arith}
use Rattle.model.specs.Compute.Places.{two}
use Rattle.verdict.proofs.Tied.{column_is, overlap_tied}
use Rattle.verdict.proofs.asked.overlapping.Goals as goal

pub returns : goal.returns
returns c ρ L =
    ap (option_map two) c.overlap_place.ensures
    ∙ overlap_tied (column_is L 3 (omega arith) (omega arith) c.column.ensures.0) (column_is L 4 (omega arith) (omega arith) c.column-2.ensures.0) (column_is L 5 (omega arith) (omega arith) c.column-3.ensures.0)
