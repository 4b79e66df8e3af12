use native.Mathlib.Omega.{arith}
use mathlib.Core.Path.{◌∙◌}
use Rattle.chain.proofs.PutChain.{put_in, put_not}
use Rattle.chain.proofs.write.put_if.Goals as goal

pub returns-then-i-out : goal.returns-then-i-out
returns-then-i-out c = c.put_u32.ensures ∙ put_in _ _ _ (omega arith)

pub returns-else-i-out : goal.returns-else-i-out
returns-else-i-out c = put_not _ _ _ (λ h. omega arith)
