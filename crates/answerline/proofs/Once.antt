-- Two results that a contract permits are the same: of `report_line`, the line. Assumes nothing.
use mathlib.Core.Path.{sym, ◌∙◌}
use Rattle.base.proofs.Once.{Once}
use Rattle.answerline.proofs.most_read.Reads as most_read
use Rattle.answerline.proofs.report_line.Reads as report_line

pub most_read_once : Once most_read.Pre most_read.Post (λ r exit. r)
most_read_once κs args _ r r' exit exit' p q = p ∙ sym q

pub report_line_once : Once report_line.Pre report_line.Post (λ r exit. r)
report_line_once κs args _ r r' exit exit' p q = p.0 ∙ sym q.0
