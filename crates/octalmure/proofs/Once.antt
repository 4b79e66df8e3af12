-- Two results that a call's contract permits are the same. Assumes nothing.
use mathlib.Core.Path.{sym, ◌∙◌}
use Rattle.base.proofs.Once.{Once, ◌also◌, both}
use Rattle.octalmure.proofs.check.octalmure_check.Reads as octalmure_check
use Rattle.octalmure.proofs.carry.octalmure_carry.Reads as octalmure_carry
use Rattle.octalmure.proofs.import.octalmure_import.Reads as octalmure_import
use Rattle.octalmure.proofs.export.octalmure_export.Reads as octalmure_export
use Rattle.octalmure.proofs.why.octalmure_why.Reads as octalmure_why

-- the number returned, and the answer slice
pub octalmure_check_once : Once octalmure_check.Pre octalmure_check.Post (λ r exit. r also exit.1.0.now)
octalmure_check_once κs args _ r r' exit exit' p q = both (p.0 ∙ sym q.0) (p.1 ∙ sym q.1)

-- the number returned, the output and the answer slice
pub octalmure_carry_once : Once octalmure_carry.Pre octalmure_carry.Post (λ r exit. r also exit.1.1.0.now also exit.1.1.1.0.now)
octalmure_carry_once κs args _ r r' exit exit' p q = both (p.0 ∙ sym q.0) (both (p.1 ∙ sym q.1) (p.2 ∙ sym q.2))

pub octalmure_import_once : Once octalmure_import.Pre octalmure_import.Post (λ r exit. r also exit.1.1.0.now also exit.1.1.1.0.now)
octalmure_import_once κs args _ r r' exit exit' p q = both (p.0 ∙ sym q.0) (both (p.1 ∙ sym q.1) (p.2 ∙ sym q.2))

pub octalmure_export_once : Once octalmure_export.Pre octalmure_export.Post (λ r exit. r also exit.1.0.now also exit.1.1.0.now)
octalmure_export_once κs args _ r r' exit exit' p q = both (p.0 ∙ sym q.0) (both (p.1 ∙ sym q.1) (p.2 ∙ sym q.2))

pub octalmure_why_once : Once octalmure_why.Pre octalmure_why.Post (λ r exit. r also exit.1.1.0.now also exit.1.1.1.0.now)
octalmure_why_once κs args _ r r' exit exit' p q = both (p.0 ∙ sym q.0) (both (p.1 ∙ sym q.1) (p.2 ∙ sym q.2))
