-- The line of the numbers of the check, which past the first 16,384 bytes sees nothing. Assumes nothing.
use mathlib.Core.Path.{sym, ◌∙◌, ap}
use native.Mathlib.Omega.{arith}
use Rattle.model.specs.Calls.{numbers}
use Rattle.model.specs.Report.{most_read, line, report}
use Rattle.model.proofs.Prefix.{check_prefix}
use Rattle.text.specs.Lined.{lined}
use Rattle.answerline.proofs.report_line.Goals as goal

pub returns : goal.returns
unfolding report
returns c =
    let input = c.args.input.now in
    let five = c.check_file-told.ensures ∙ sym (check_prefix input most_read (omega arith)) in
    (c.line_of.ensures.0 ∙ ap (λ f. lined (line (numbers f))) five, c.line_of.ensures.1)
