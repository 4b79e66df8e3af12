-- The test of one record says that it holds the core. Assumes nothing.
use Rattle.std.proofs.Common.{rules}
use Rattle.std.proofs.lemmas.Iterator.{YieldsList-from_range}
use Rattle.std.proofs.lemmas.Iterator.Search.{any_from_yields_List}
use mathlib.Core.Path.{◌∙◌, refl}
use lib.ListN.{length}
use native.Mathlib.Omega.{arith}
use Rattle.idle.specs.Idle.{holds_in, busy_in}
use Rattle.idle.proofs.Ranges.{any_first}
use Rattle.idle.proofs.running.Records.busy.Goals as goal

pub returns : goal.returns
unfolding holds_in busy_in
returns c =
    let n = length c.args.self.start.now in
    any_from_yields_List _ _ _ _ c.any.ensures.ran (YieldsList-from_range 0 n n refl (omega arith)) (λ x b q h. search rules) ∙ any_first _ n 0
