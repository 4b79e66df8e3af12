-- By task, or, of one task, by job. Assumes nothing.
use Rattle.std.proofs.Common.{arith}
use Rattle.std.proofs.lemmas.Bool.Decides.{nat_tests}
use Rattle.exchange.specs.Import.{job_before}
use Rattle.exportfile.proofs.rising.goes_before.Goals as goal

pub returns : goal.returns
unfolding job_before
returns c = grind (arith, nat_tests)
