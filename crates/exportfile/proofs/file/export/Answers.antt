-- The file's own refusals, or what is said of a file that tells a run. Assumes nothing.
use Rattle.std.proofs.lemmas.Result.{err_from_is_err_and}
use mathlib.Core.Path.{subst}
use Rattle.exportfile.specs.LinesOf.{Exports}
use Rattle.model.specs.Answers.{five_written}
use Rattle.exportfile.proofs.EachOutcome.{says_refused}
use Rattle.exportfile.proofs.file.export.Goals as goal

pub returns-in_err-opened : goal.returns-in_err-opened
returns-in_err-opened c =
    let p = err_from_is_err_and c.from_residual.result c.from_residual.ensures.1 in
    rw (p.1, p.2) (says_refused _ _ _ _ c.in_err-opened.ensures)

pub returns : goal.returns
returns c =
    subst (λ f. Exports f.now c.args.output.now (five_written c.export_run.result) c.export_run.new.output) c.in_ok-opened.ensures c.export_run.ensures
