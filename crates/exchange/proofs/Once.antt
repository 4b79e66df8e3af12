-- Two results that a contract permits are the same: of `header_line`, the line. Assumes nothing.
use mathlib.Core.Path.{sym, ◌∙◌}
use Rattle.base.proofs.Once.{Once}
use Rattle.exchange.proofs.header_line.Reads as header_line

pub header_line_once : Once header_line.Pre header_line.Post (λ r exit. r)
header_line_once κs args _ r r' exit exit' p q = p ∙ sym q
