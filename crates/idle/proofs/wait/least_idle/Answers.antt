-- The loop keeps the first instant within one of the stretches passed. Assumes nothing.
use mathlib.Core.Path.{◌≡◌}
use native.Mathlib.Omega.{arith}
use lib.ListN.{length}
use Rattle.idle.proofs.FirstFrom.{among_on}
use Rattle.idle.proofs.wait.least_idle.Goals as goal

pub loop-k-preserved : goal.loop-k-preserved
loop-k-preserved c = among_on _ c.loop-k.invariant c.first_within.ensures (omega arith)

pub returns : goal.returns
returns c =
    let e : c.loop-k.k ≡ length c.args.end.now = omega arith in
    rw e at c.loop-k.invariant
