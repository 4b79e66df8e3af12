use native.Mathlib.Omega.{arith}
use Rattle.writing.proofs.Writing.{numbers_none, numbers_on}
use Rattle.writing.proofs.write_numbers.Goals as goal

pub loop-i-init : goal.loop-i-init
loop-i-init c = numbers_none _ _

pub loop-i-preserved : goal.loop-i-preserved
loop-i-preserved c = let loop = c.loop-i in numbers_on c.args.numbers.now loop.i loop.invariant (omega arith) c.put_u32.ensures (omega arith)
