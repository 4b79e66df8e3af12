-- Two results that a contract permits are the same: of `export_file`, the answer and the output. Assumes nothing.
use mathlib.Core.Path.{sym, ◌∙◌}
use Rattle.base.proofs.Once.{Once, ◌also◌, both}
use Rattle.model.proofs.Once.{five_once}
use Rattle.exportfile.proofs.file.export_file.Reads as export_file

pub export_file_once : Once export_file.Pre export_file.Post (λ r exit. r also exit.1.0.now)
export_file_once κs args _ r r' exit exit' p q = both (five_once r r' _ p.0 q.0) (p.1 ∙ sym q.1)
