use mathlib.Core.Path.{◌∙◌}
use native.Mathlib.Omega.{arith}
use Rattle.openfile.proofs.WholeOrRefused.{tells_size}
use Rattle.carryfile.proofs.JobsTold.{jobs_told}
use Rattle.carryfile.proofs.file.jobs_by.Goals as goal

pub tally_tasks-requires : goal.tally_tasks-requires
tally_tasks-requires c = omega (arith, tells_size c.args.o.tells)

pub returns : goal.returns
returns c = c.unwrap_or.ensures ∙ jobs_told c.args.o.tells c.tally_tasks.ensures
