-- Without a mark it is not given; else it is searched. Assumes nothing.
use mathlib.Core.Path.{◌≡◌}
use borrow.Author.Rules.{rules}
use borrow.Author.Tests.{tests}
use Rattle.std.proofs.lemmas.Iterator.{cases_from_any, YieldsList-from_slice}
use Rattle.model.specs.Model.{job_of}
use Rattle.readlines.proofs.Marks.{searched}
use Rattle.readlines.proofs.scan.given_before.Goals as goal

pub returns-then-mark : goal.returns-then-mark
returns-then-mark c =
    searched _ _
    (cases_from_any _ _ _ (λ x. job_of x ≡ (c.args.task, c.args.job)) (λ x. ¬ (job_of x ≡ (c.args.task, c.args.job))) c.any.ensures.ran
    (YieldsList-from_slice c.args.rows.now cc) (λ x q k. search (rules, tests)) (λ x q k. search (rules, tests)))
