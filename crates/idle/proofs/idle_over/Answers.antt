-- Rule 8: each record's wait is looked at, the first record first. Assumes nothing.
use mathlib.Core.Path.{sym, ◌∙◌}
use native.Mathlib.Omega.{arith}
use Rattle.base.proofs.Loop.{nothing_on, first_of_hit, first_of_miss}
use Rattle.idle.specs.Idle.{idle_in}
use Rattle.idle.proofs.idle_over.Goals as goal

pub returns-in-Some : goal.returns-in-Some
unfolding idle_in
returns-in-Some g c = first_of_hit _ _ _ (omega arith) (omega arith) c.loop-a.invariant (sym c.first_idle.ensures ∙ c.in-Some.is)

pub loop-a-preserved : goal.loop-a-preserved
unfolding idle_in
loop-a-preserved g c = nothing_on _ c.loop-a.invariant (sym c.first_idle.ensures ∙ c.in_default.is)

pub returns : goal.returns
returns g c = first_of_miss _ _ _ (omega arith) c.loop-a.invariant
