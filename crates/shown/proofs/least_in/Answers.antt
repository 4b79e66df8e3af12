use mathlib.Core.Path.{◌∙◌}
use Rattle.shown.proofs.Least.{least_is}
use Rattle.shown.proofs.least_in.Goals as goal

pub returns : goal.returns
returns c = c.least_record.ensures ∙ least_is _ c.requires _
