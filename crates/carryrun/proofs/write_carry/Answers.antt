-- At most 512 jobs exist. Assumes nothing.
use native.Mathlib.Omega.{arith}
use Rattle.carryrun.proofs.Handed.{few_jobs}
use Rattle.carryrun.proofs.write_carry.Goals as goal

pub write_within-requires-else-m-le-FEW : goal.write_within-requires-else-m-le-FEW
write_within-requires-else-m-le-FEW c = let few = few_jobs c.requires in (omega arith, omega arith, c.requires)
