-- The call, met by a short answer slice or not. Assumes nothing.
use borrow.Author.Rules.{rules}
use Rattle.model.proofs.Calls.{met_short, met_long}
use Rattle.octalmure.proofs.carry.octalmure_carry.Goals as goal

pub returns-then-answer-lt-ANSWER_SIZE : goal.returns-then-answer-lt-ANSWER_SIZE
returns-then-answer-lt-ANSWER_SIZE c = met_short _ _ _ (search rules)

pub returns : goal.returns
returns c = met_long _ _ _ (search rules) c.carry_file-told.ensures c.write_answer.ensures
