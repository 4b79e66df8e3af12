-- Two results that a contract permits are the same: of `check_file`. Assumes nothing.
use Rattle.base.proofs.Once.{Once}
use Rattle.model.proofs.Once.{five_once}
use Rattle.checkfile.proofs.file.check_file.Reads as check_file

pub check_file_once : Once check_file.Pre check_file.Post (λ r exit. r)
check_file_once κs args _ r r' exit exit' = five_once r r' _
