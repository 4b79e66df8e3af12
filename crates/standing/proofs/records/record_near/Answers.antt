-- The record at the place that is tried, none, or the least one. Assumes nothing.
use mathlib.Core.Path.{◌∙◌}
use native.Mathlib.Omega.{arith}
use Rattle.reader.proofs.SectionStarts.{least_told}
use Rattle.standing.proofs.OfJob.{near_is, not_yet}
use Rattle.standing.proofs.records.record_near.Goals as goal

pub returns-then-is_of : goal.returns-then-is_of
returns-then-is_of c ρ T J e =
    near_is T J _ _ c.if-near-o.true c.record_at.ensures c.is_of.ensures c.if-is_of.true

pub returns-then-jobs-j : goal.returns-then-jobs-j
returns-then-jobs-j c ρ T J e = not_yet T J _ _ e (omega (arith, c.jobs.ensures))

pub returns-else-jobs-j : goal.returns-else-jobs-j
returns-else-jobs-j c ρ T J e = c.least_record.ensures ∙ least_told T _
