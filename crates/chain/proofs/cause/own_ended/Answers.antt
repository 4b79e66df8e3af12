-- Its task's first job has none before it; else the record before is of its task. Assumes nothing.
use borrow.Author.Tests.{eq-eqb}
use mathlib.Core.Path.{◌∙◌, ap}
use mathlib.Core.Bool.{not}
use Rattle.chain.proofs.FoundInTable.{own_first, own_later}
use Rattle.chain.proofs.cause.own_ended.Goals as goal

pub returns-then-t-n-ne0 : goal.returns-then-t-n-ne0
returns-then-t-n-ne0 c = λ ρ J L. own_later L c.requires.1 J c.if-t-n-ne0.true

pub returns-else-t-n-ne0 : goal.returns-else-t-n-ne0
returns-else-t-n-ne0 c = λ ρ J L. ap not (eq-eqb _ _ c.if-t-n-ne0.false) ∙ own_first L c.requires.1 J c.if-t-n-ne0.false
