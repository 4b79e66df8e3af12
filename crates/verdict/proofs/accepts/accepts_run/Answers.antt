use mathlib.Core.Path.{◌∙◌, ap}
use lib.Dec.{leb}
use Rattle.verdict.proofs.accepts.accepts_run.Goals as goal

pub returns : goal.returns
returns c = c.accepts.ensures ∙ ap (λ f. leb f.answer 2) c.judge_run.ensures
