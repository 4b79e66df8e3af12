-- A table as long as the file has records, in an array of N numbers. Assumes nothing.
use Prim.Native.Nat.{ℕ}
use native.Mathlib.Omega.{arith}
use lib.ListN.{length-replicate}
use lib.Seq.{length-take-le}
use Rattle.openfile.proofs.WholeOrRefused.{tells_few}
use Rattle.whyfile.proofs.file.trace_within.Goals as goal

pub trace-requires : goal.trace-requires
trace-requires g c = (record { long = length-take-le _ _ (omega (arith, length-replicate {A = ℕ} g.row.N 0, c.requires.0)); few = (tells_few c.args.o.tells).2 }, c.requires.2, c.requires.3)
