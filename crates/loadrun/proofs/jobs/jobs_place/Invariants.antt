use Prim.Native.Nat.{◌≤◌}
use Rattle.model.specs.Model.{Run, most_jobs}
use Rattle.openfile.specs.Head.{Known}
use Rattle.table.specs.Table.{Lent, recorded}
use Rattle.loadrun.proofs.SameJobs.{SameTo}
use Rattle.loadrun.proofs.jobs.jobs_place.Given as goal

abbrev pub invariant-loop-i : goal.invariant-loop-i
invariant-loop-i l = (l.at ≤ most_jobs) × ((ρ : Run) → Known l.fn.head l.fn.tasks ρ → Lent recorded ρ l.t l.n → SameTo ρ l.i l.at)
