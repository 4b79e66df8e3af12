use Rattle.shown.proofs.Least.{began_said}
use Rattle.shown.proofs.began_before.Goals as goal

pub returns : goal.returns
returns c = began_said _ c.requires.0 c.setting_of.ensures c.record_at.ensures c.requires.1
