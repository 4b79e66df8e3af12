-- One key after the other. Assumes nothing.
use Prim.Native.Nat.{◌+◌}
use mathlib.Core.Path.{◌≡◌}
use native.Mathlib.Omega.{arith}
use Rattle.base.proofs.Fill.{fills_on}
use Rattle.importfile.proofs.rows.fill_keys.Goals as goal

pub loop-k-preserved : goal.loop-k-preserved
loop-k-preserved c =
    let loop = c.loop-k in
    let z : 0 + loop.k ≡ loop.k = omega arith in
    rw z at (fills_on loop.invariant (omega arith) c.key_of.ensures)
