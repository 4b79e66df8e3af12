-- The range gives the numbers below n, and `position` finds the first that passes. Assumes nothing.
use Rattle.std.proofs.Common.{rules}
use Rattle.std.proofs.lemmas.Iterator.{serves_from_Range, YieldsList-from_range}
use Rattle.std.proofs.lemmas.Iterator.Adapters.{position_from-zero}
use Rattle.std.proofs.lemmas.Iterator.Search.{position_from_yields_List}
use mathlib.Core.Path.{◌≡◌, ◌∙◌, refl}
use native.Mathlib.Omega.{arith}
use Rattle.rules.proofs.FirstPlace.{position_first}
use Rattle.rules.proofs.first_place.Goals as goal

pub position-requires-clause-callable : goal.position-requires-clause-callable
position-requires-clause-callable g c = serves_from_Range (λ x q h. g.met.F.Fn.1.step_stays _ _ _ _ h) (λ x l h. search rules)

pub returns : goal.returns
returns g c p h =
    let n = c.args.n in
    let e : c.map.result ≡ c.position.result = search rules in
    e
    ∙ position_from_yields_List p _ _ _ c.position.ensures.ran (YieldsList-from_range 0 n n refl (omega arith)) h
    ∙ position_from-zero p _
    ∙ position_first p n 0
