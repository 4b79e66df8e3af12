use Rattle.std.proofs.lemmas.Result.{err_from_is_err_and}
use mathlib.Core.Path.{subst}
use Rattle.model.specs.Answers.{five_written}
use Rattle.carryfile.specs.ToldAndWritten.{Carries}
use Rattle.carryfile.proofs.EachAnswer.{says_refused}
use Rattle.carryfile.proofs.file.carry.Goals as goal

pub returns-in_err-opened : goal.returns-in_err-opened
returns-in_err-opened c =
    let p = err_from_is_err_and c.from_residual.result c.from_residual.ensures.1 in
    rw (p.1, p.2) (says_refused _ _ _ _ _ c.in_err-opened.ensures)

pub returns : goal.returns
returns c =
    subst (λ f. Carries f.now c.args.horizon c.args.output.now (five_written c.carry_run.result) c.carry_run.new.output) c.in_ok-opened.ensures c.carry_run.ensures
