-- The loop keeps what is late of the records passed. Assumes nothing.
use mathlib.Core.Path.{◌≡◌, refl}
use native.Mathlib.Omega.{arith}
use lib.ListN.{length}
use Rattle.verdict.proofs.Lateness.{late_none, late_few}
use Rattle.verdict.proofs.late.late_records.Goals as goal

pub late_with-late-requires : goal.late_with-late-requires
late_with-late-requires c = (late_few _ _ _ _ c.loop-k.invariant, omega arith)

pub loop-k-preserved : goal.loop-k-preserved
loop-k-preserved c = c.late_with-late.ensures _ _ _ refl refl refl c.loop-k.invariant

pub returns : goal.returns
returns c =
    let e : c.loop-k.k ≡ length c.args.end.now = omega arith in
    rw e at c.loop-k.invariant

pub loop-k-init : goal.loop-k-init
loop-k-init c = late_none _ _ _ _
