-- The answer from what is late. Assumes nothing.
use mathlib.Core.Path.{refl}
use Rattle.verdict.proofs.Lateness.{timely_of_lem}
use Rattle.verdict.proofs.late.timely.Goals as goal

pub returns-in-Some-default : goal.returns-in-Some-default
returns-in-Some-default c = timely_of_lem _ _ _ _ c.late_records-late.ensures c.in-Some-default.is-0 refl

pub returns-in-None-Some : goal.returns-in-None-Some
returns-in-None-Some c = timely_of_lem _ _ _ _ c.late_records-late.ensures c.in-None-Some.is-0 c.in-None-Some.is-1

pub returns-in-None-None : goal.returns-in-None-None
returns-in-None-None c = timely_of_lem _ _ _ _ c.late_records-late.ensures c.in-None-None.is-0 c.in-None-None.is-1
