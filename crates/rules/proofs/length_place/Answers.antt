-- The test of one record says what rule 4 asks of it. Assumes nothing.
use Rattle.std.proofs.Common.{rules}
use Rattle.rules.proofs.length_place.Goals as goal

pub returns : goal.returns
returns c = c.first_place.ensures _ (λ k b f h. search rules)
