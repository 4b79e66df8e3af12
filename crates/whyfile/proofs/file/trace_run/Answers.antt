-- A file has at most 512 records. Assumes nothing.
use native.Mathlib.Omega.{arith}
use Rattle.openfile.proofs.WholeOrRefused.{tells_few}
use Rattle.whyfile.proofs.file.trace_run.Goals as goal

pub trace_within-requires-else-o-le-FEW : goal.trace_within-requires-else-o-le-FEW
trace_within-requires-else-o-le-FEW c =
    let few = (tells_few c.args.o.tells).2 in
    (omega arith, omega arith, c.requires.0, c.requires.1)
