-- The loop keeps the latest of the instants at which the cores passed begin. Assumes nothing.
use mathlib.Core.Path.{◌≡◌}
use borrow.Author.Rules.{rules}
use native.Mathlib.Omega.{arith}
use Rattle.idle.proofs.Begun.{begun_on}
use Rattle.idle.proofs.running.Records.all_begun.Goals as goal

pub loop-c-preserved : goal.loop-c-preserved
loop-c-preserved c = (omega arith, begun_on _ _ _ (omega arith) c.loop-c.invariant.1 c.busy_from.ensures (search rules))

pub returns-2 : goal.returns-2
returns-2 c =
    let e : c.loop-c.c ≡ c.args.self.cores = omega arith in
    rw (← e) (begun_on _ _ _ (omega arith) c.loop-c.invariant.1 c.busy_from.ensures (search rules))
