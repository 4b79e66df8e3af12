-- Two results that a contract permits are the same: of `write_chain`, the answer and the output. Assumes nothing.
use mathlib.Core.Path.{sym, ◌∙◌}
use Rattle.base.proofs.Once.{Once, ◌also◌, both}
use Rattle.model.proofs.Once.{five_once}
use Rattle.chain.proofs.write.write_chain.Reads as write_chain

pub write_chain_once : Once write_chain.Pre write_chain.Post (λ r exit. r also exit.1.1.1.0.now)
write_chain_once κs args (l, (ρ, T)) r r' exit exit' p q = both (five_once r r' _ (p ρ T).0 (q ρ T).0) ((p ρ T).1 ∙ sym (q ρ T).1)
