-- A file has at most 512 records. Assumes nothing.
use native.Mathlib.Omega.{arith}
use Rattle.openfile.proofs.WholeOrRefused.{tells_few}
use Rattle.verdict.proofs.run.judge_run.Goals as goal

pub judge_within-requires-else-o-le-FEW : goal.judge_within-requires-else-o-le-FEW
judge_within-requires-else-o-le-FEW c = let few = (tells_few c.args.o.tells).2 in (omega arith, omega arith, c.requires)
