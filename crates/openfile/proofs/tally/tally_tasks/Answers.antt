use borrow.Author.Rules.{rules}
use native.Mathlib.Omega.{arith}
use Rattle.openfile.proofs.Tallied.{tally_yet, tally_on, tally_out, tally_all}
use Rattle.openfile.proofs.tally.tally_tasks.Goals as goal

pub returns-then-not-in_range : goal.returns-then-not-in_range
returns-then-not-in_range c = tally_out c.loop-i.invariant.1 (search rules) (cc)

pub loop-i-preserved : goal.loop-i-preserved
loop-i-preserved c = (search rules, tally_on c.loop-i.invariant.1 (search rules) (cc) (cc) (search rules))

pub returns : goal.returns
returns c = tally_all c.loop-i.invariant.1 (omega arith)

pub loop-i-init : goal.loop-i-init
loop-i-init c = search (rules, tally_yet)
