-- A remainder. Assumes nothing.
use mathlib.Core.Path.{refl}
use native.Mathlib.Omega.{arith}
use Rattle.readlines.specs.Scan.{slot_of}
use Rattle.readlines.proofs.scan.slot_of.Goals as goal

pub returns : goal.returns
unfolding slot_of
returns c = (refl, omega arith)
