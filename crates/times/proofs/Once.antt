-- Two results that a contract permits are the same: of the functions of this crate. Assumes nothing.
use Rattle.base.proofs.Once.{Once}
use Rattle.table.proofs.LentLaws.{loads_same}
use Rattle.times.proofs.fill_times.Reads as fill_times

pub fill_times_once : Once fill_times.Pre fill_times.Post (λ r exit. exit.1.1.0.now)
fill_times_once κs args (σ, I) r r' exit exit' p q = loads_same (p σ I) (q σ I)
