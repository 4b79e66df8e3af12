-- Two results that a contract permits are the same: of `start_all`, the table. Assumes nothing.
use Rattle.base.proofs.Once.{Once}
use Rattle.table.proofs.LentLaws.{lent_same}
use Rattle.starts.proofs.start_all.Reads as start_all

pub start_all_once : Once start_all.Pre start_all.Post (λ r exit. exit.1.1.0.now)
start_all_once κs args pre r r' exit exit' p q =
    let (ρ, H', opened) = pre in
    lent_same (p ρ H' opened) (q ρ H' opened)
