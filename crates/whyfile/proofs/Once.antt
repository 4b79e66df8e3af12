-- Two results that a contract permits are the same: of `why_file`, the answer and the output. Assumes nothing.
use mathlib.Core.Path.{sym, ◌∙◌}
use Rattle.base.proofs.Once.{Once, ◌also◌, both}
use Rattle.model.proofs.Once.{five_once}
use Rattle.whyfile.proofs.file.why_file.Reads as why_file

pub why_file_once : Once why_file.Pre why_file.Post (λ r exit. r also exit.1.1.0.now)
why_file_once κs args _ r r' exit exit' p q = both (five_once r r' _ p.0 q.0) (p.1 ∙ sym q.1)
