-- A table for the jobs that exist, in an array of N numbers. Assumes nothing.
use Prim.Native.Nat.{ℕ}
use native.Mathlib.Omega.{arith}
use lib.ListN.{length-replicate}
use lib.Seq.{length-take-le}
use Rattle.carryrun.proofs.Handed.{few_jobs}
use Rattle.carryrun.proofs.write_within.Goals as goal

pub write_table-requires : goal.write_table-requires
write_table-requires g c = (record { long = length-take-le _ _ (omega (arith, length-replicate {A = ℕ} g.row.N 0, c.requires.0)); few = few_jobs c.requires.2 }, c.requires.2)
