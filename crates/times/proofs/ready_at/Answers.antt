-- The later of the release and the end of the record before, unless it is its task's first job. Assumes nothing.
use mathlib.Core.Path.{◌∙◌}
use Rattle.times.proofs.TimesOfRecord.{ready_first, ready_later}
use Rattle.times.proofs.ready_at.Goals as goal

pub returns-then-t-n-eq0 : goal.returns-then-t-n-eq0
returns-then-t-n-eq0 c = λ σ J L. ready_first J L c.requires.1 c.if-t-n-eq0.true

pub returns-else-t-n-eq0 : goal.returns-else-t-n-eq0
returns-else-t-n-eq0 c = λ σ J L. c.later.ensures ∙ ready_later J L c.requires.1 c.if-t-n-eq0.false
