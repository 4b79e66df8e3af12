-- The loop keeps the first instant at which one of the records passed runs on the core. Assumes nothing.
use native.Mathlib.Omega.{arith}
use Rattle.idle.proofs.FirstFrom.{among_on}
use Rattle.idle.proofs.Busy.{busy_from}
use Rattle.idle.proofs.running.Records.busy_from.Goals as goal

pub loop-k-preserved : goal.loop-k-preserved
loop-k-preserved c = among_on _ c.loop-k.invariant c.runs_from.ensures (omega arith)

pub returns : goal.returns
returns c = busy_from _ _ _ (omega arith) c.loop-k.invariant
