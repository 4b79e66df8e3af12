use mathlib.Core.Path.{◌≡◌, ◌∙◌, ap}
use native.Mathlib.Omega.{arith}
use Rattle.model.specs.File.{num, records_place}
use Rattle.openfile.proofs.WaysOut.{records_uncounted, records_many, records_cut, records_followed, records_fine}
use Rattle.openfile.proofs.judge.judge_records.Goals as goal
use Rattle.openfile.proofs.judge.judge_records.Goals.{After-num_at-count}

-- what stands at the place of the records' count
counted : (c : After-num_at-count) → c.num_at-count.result ≡ num c.args.file.now (records_place c.args.n)
counted c = c.num_at-count.ensures ∙ ap (num c.args.file.now) c.records_place-at.ensures

pub returns-then-file-at : goal.returns-then-file-at
returns-then-file-at c τs L = records_uncounted _ _ τs _ (omega arith)

pub returns-then-count-gt-MOST : goal.returns-then-count-gt-MOST
returns-then-count-gt-MOST c τs L = records_many _ _ τs _ (omega (arith, counted ((goal.at.returns-then-count-gt-MOST c).After-num_at-count)))

pub returns-then-file-size : goal.returns-then-file-size
returns-then-file-size c τs L = records_cut _ _ τs _ (omega (arith, counted ((goal.at.returns-then-file-size c).After-num_at-count)))

pub returns-then-size-file : goal.returns-then-size-file
returns-then-size-file c τs L = records_followed _ _ τs _ (omega (arith, counted ((goal.at.returns-then-size-file c).After-num_at-count)))

pub returns : goal.returns
returns c τs L = records_fine _ _ τs _ L (omega (arith, counted ((goal.at.returns c).After-num_at-count)))
