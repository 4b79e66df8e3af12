-- Rule 9 is asked, where rule 3 holds, of the columns of ready instants and starts. Assumes nothing.
use Rattle.std.specs.Prelude.{option_map}
use mathlib.Core.Path.{◌∙◌, ap}
use native.Mathlib.Omega.{arith}
use Rattle.model.specs.Compute.Places.{one}
use Rattle.verdict.proofs.Tied.{column_is, turn_tied}
use Rattle.verdict.proofs.asked.out_of_turn.Goals as goal

pub returns : goal.returns
returns c ρ L s =
    ap (option_map one) c.start_place.ensures
    ∙ turn_tied s (column_is L 12 (omega arith) (omega arith) c.column.ensures.0) (column_is L 3 (omega arith) (omega arith) c.column-2.ensures.0)
