use mathlib.Core.Path.{subst}
use Rattle.model.specs.Answers.{five_of}
use Rattle.whyfile.specs.ReasonLeft.{Reasons}
use Rattle.whyfile.proofs.EachReason.{says_own}
use Rattle.whyfile.proofs.file.why_file.Goals as goal

pub returns-in-Ok : goal.returns-in-Ok
returns-in-Ok c =
    subst (λ f. Reasons f.now c.args.k c.args.output.now (five_of c.why_run.result) c.why_run.new.output) c.in-Ok.ensures c.why_run.ensures

pub returns-in-Err : goal.returns-in-Err
returns-in-Err c = rw c.from.ensures (says_own _ _ _ _ _ c.in-Err.ensures)
