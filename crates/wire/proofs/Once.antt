-- Two results that a contract permits are the same: of the functions of this crate. Assumes nothing.
use mathlib.Core.Path.{sym, ◌∙◌}
use Rattle.base.proofs.Once.{Once, ◌also◌, both}
use Rattle.wire.proofs.put_u32.Reads as put_u32
use Rattle.wire.proofs.numbers_of.Reads as Numbers-of
use Rattle.wire.proofs.write_answer.Reads as write_answer

pub put_u32_once : Once put_u32.Pre put_u32.Post (λ r exit. exit.0.now)
put_u32_once κs args _ r r' exit exit' p q = p ∙ sym q

pub numbers_of_once : Once Numbers-of.Pre Numbers-of.Post (λ r exit. r)
numbers_of_once κs args _ r r' exit exit' p q = p ∙ sym q

-- the number, and the answer slice
pub write_answer_once : Once write_answer.Pre write_answer.Post (λ r exit. r also exit.1.0.now)
write_answer_once κs args _ r r' exit exit' p q = both (p.0 ∙ sym q.0) (p.1 ∙ sym q.1)
