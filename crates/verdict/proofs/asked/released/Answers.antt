-- Rule 2 is asked of the columns of earliest, release and latest instants. Assumes nothing.
use Rattle.std.specs.Prelude.{option_map}
use mathlib.Core.Path.{◌∙◌, ap}
use native.Mathlib.Omega.{arith}
use Rattle.model.specs.Compute.Places.{one}
use Rattle.verdict.proofs.Tied.{column_is, release_tied}
use Rattle.verdict.proofs.asked.released.Goals as goal

pub returns : goal.returns
returns c ρ L =
    ap (option_map one) c.release_place.ensures
    ∙ release_tied (column_is L 6 (omega arith) (omega arith) c.column.ensures.0) (column_is L 2 (omega arith) (omega arith) c.column-2.ensures.0) (column_is L 7 (omega arith) (omega arith) c.column-3.ensures.0)
