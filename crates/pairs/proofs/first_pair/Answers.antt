-- The first a for which something is found. Assumes nothing.
use mathlib.Core.Path.{sym, ◌∙◌}
use native.Mathlib.Omega.{arith}
use Rattle.base.proofs.Loop.{nothing_on, first_of_hit, first_of_miss}
use Rattle.pairs.proofs.first_pair.Goals as goal

pub returns-in-Some : goal.returns-in-Some
returns-in-Some g c f h = first_of_hit f 0 _ (omega arith) (omega arith) (c.loop-a.invariant f h) (sym (h _ _ (omega arith) c.find.ensures) ∙ c.in-Some.is)

pub loop-a-preserved : goal.loop-a-preserved
loop-a-preserved g c f h = nothing_on f (c.loop-a.invariant f h) (sym (h _ _ (omega arith) c.find.ensures) ∙ c.in_default.is)

pub returns : goal.returns
returns g c f h = first_of_miss f 0 _ (omega arith) (c.loop-a.invariant f h)
