-- Two results that a contract permits are the same: of `write_run`, the output. Assumes nothing.
use mathlib.Core.Path.{sym, ◌∙◌}
use Rattle.base.proofs.Once.{Once}
use Rattle.writing.proofs.write_run.Reads as write_run

pub write_run_once : Once write_run.Pre write_run.Post (λ r exit. exit.1.1.1.1.1.0.now)
write_run_once κs args (room, (σ, T)) r r' exit exit' p q = p σ T ∙ sym (q σ T)
