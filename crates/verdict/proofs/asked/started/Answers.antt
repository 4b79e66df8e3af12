-- Rule 3 is asked of the columns of releases and starts. Assumes nothing.
use Rattle.std.specs.Prelude.{option_map}
use mathlib.Core.Path.{◌∙◌, ap}
use native.Mathlib.Omega.{arith}
use Rattle.model.specs.Compute.Places.{one}
use Rattle.verdict.proofs.Tied.{column_is, start_tied}
use Rattle.verdict.proofs.asked.started.Goals as goal

pub returns : goal.returns
returns c ρ L =
    ap (option_map one) c.start_place.ensures
    ∙ start_tied (column_is L 2 (omega arith) (omega arith) c.column.ensures.0) (column_is L 3 (omega arith) (omega arith) c.column-2.ensures.0)
