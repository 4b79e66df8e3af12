-- A file that is refused, and one that tells a run. Assumes nothing.
use mathlib.Core.Path.{sym, ◌∙◌, ap}
use borrow.Author.Rules.{rules}
use Rattle.model.specs.Compute.Verdict.{check}
use Rattle.openfile.proofs.Leading.{leads_front}
use Rattle.checkfile.proofs.ByHead.{check_whole, check_refused}
use Rattle.checkfile.proofs.file.check_file.Goals as goal

pub returns-in-Err : goal.returns-in-Err
returns-in-Err c = rw (sym (check_refused _ _ _ c.in-Err.ensures)) (search rules)

pub judge_run-requires : goal.judge_run-requires
judge_run-requires c = leads_front _ c.tasks_of.ensures

pub returns-in-Ok : goal.returns-in-Ok
returns-in-Ok c =
    c.judge_run.ensures
    ∙ check_whole _ _ c.in-Ok.o.tells.reads
    ∙ ap (λ f. check f.now) c.in-Ok.ensures
