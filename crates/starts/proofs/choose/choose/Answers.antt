-- The pass over the jobs. Assumes nothing.
use mathlib.Core.Path.{◌≡◌}
use native.Mathlib.Omega.{arith}
use lib.ListN.{length}
use Rattle.starts.proofs.Choosing.{nobody_yet}
use Rattle.starts.proofs.choose.choose.Goals as goal

pub loop-k-init : goal.loop-k-init
loop-k-init c = nobody_yet

pub returns : goal.returns
returns c =
    let e : c.loop-k.k ≡ length c.args.core.now = omega arith in
    rw e at c.loop-k.invariant
