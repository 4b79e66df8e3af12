-- The call, met by a short answer slice or not. Assumes nothing.
use mathlib.Core.Path.{sym, ◌∙◌, ap}
use borrow.Author.Rules.{rules}
use Rattle.model.specs.Calls.{written}
use Rattle.model.proofs.Calls.{check_short, check_filled}
use Rattle.octalmure.proofs.check.octalmure_check.Goals as goal

pub returns-then-answer-lt-ANSWER_SIZE : goal.returns-then-answer-lt-ANSWER_SIZE
returns-then-answer-lt-ANSWER_SIZE c =
    let a = c.args in
    let e = check_short a.file.now a.answer.now (search rules) in
    (sym (ap (λ t. t.returns) e), sym (ap (λ t. t.answer) e))

pub returns : goal.returns
returns c =
    let a = c.args in
    let e = check_filled a.file.now a.answer.now (search rules) in
    let told = c.check_file-told.ensures in
    let (number, bytes) = c.write_answer.ensures in
    (number ∙ ap (λ f. f.answer) told ∙ sym (ap (λ t. t.returns) e), bytes ∙ ap (λ f. written f a.answer.now) told ∙ sym (ap (λ t. t.answer) e))
