-- The test of a record says what the definition asks. Assumes nothing.
use Rattle.std.proofs.Common.{rules}
use mathlib.Core.Path.{◌≡◌, ◌∙◌}
use native.Mathlib.Omega.{arith}
use Rattle.pairs.specs.Pairs.{overlap_in}
use Rattle.pairs.proofs.PairSearch.{first_found}
use Rattle.pairs.proofs.overlapping.Goals as goal

pub returns : goal.returns
unfolding overlap_in
returns c =
    let e : c.map.result ≡ c.find.result = search rules in
    e ∙ first_found _ _ _ _ _ c.find.ensures.ran (λ x b q h. search rules) (omega arith) (omega arith)
