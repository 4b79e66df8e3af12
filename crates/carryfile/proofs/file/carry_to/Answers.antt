use native.Mathlib.Omega.{arith}
use lib.ListN.{length}
use borrow.Author.Rules.{rules}
use Rattle.model.specs.Rules.{Obeys}
use Rattle.openfile.specs.Head.{run_in}
use Rattle.openfile.proofs.Leading.{leads_front}
use Rattle.openfile.proofs.WholeOrRefused.{tells_few}
use Rattle.carryrun.specs.Writable.{Writable}
use Rattle.carryrun.proofs.Handed.{few_jobs}
use Rattle.carryfile.proofs.EachAnswer.{says_10, obeys, writable, says_11, says_5}
use Rattle.carryfile.proofs.file.carry_to.Goals as goal
use Rattle.carryfile.proofs.file.carry_to.Goals.{Else-not-accepted, Else-not-fits}

pub accepts_run-accepted-requires : goal.accepts_run-accepted-requires
accepts_run-accepted-requires c = leads_front _ c.tasks_of-tasks.ensures

pub returns-then-not-accepted : goal.returns-then-not-accepted
returns-then-not-accepted c = says_10 c.args.o.tells _ _ c.requires.0 c.accepts_run-accepted.ensures (search rules)

-- what an accepted run does
accepted : (c : Else-not-accepted) → Obeys (run_in c.args.o.file.now)
accepted c = obeys _ c.accepts_run-accepted.ensures (search rules)

pub returns-then-not-fits : goal.returns-then-not-fits
returns-then-not-fits c =
    let (R, m) = c.requires in
    says_11 c.args.o.tells _ _ R (accepted ((goal.at.returns-then-not-fits c).Else-not-accepted)) m c.size_of-size.ensures (search rules)

-- a file that fits can be written
may_write : (c : Else-not-fits) → let a = c.args in Obeys (run_in a.o.file.now)
    → Writable a.o.file.now a.o.head c.tasks_of-tasks.result a.horizon a.m (length a.output.now) (run_in a.o.file.now)
may_write c O =
    let (R, m) = c.requires in
    writable c.args.o.tells _ (leads_front _ c.tasks_of-tasks.ensures) O R m c.size_of-size.ensures (search rules)

pub write_carry-requires : goal.write_carry-requires
write_carry-requires c =
    may_write ((goal.at.write_carry-requires c).Else-not-fits) (accepted ((goal.at.write_carry-requires c).Else-not-accepted))

pub overflow_cast-result : goal.overflow_cast-result
overflow_cast-result c =
    let few = tells_few c.args.o.tells in
    let W = may_write ((goal.at.overflow_cast-result c).Else-not-fits) (accepted ((goal.at.overflow_cast-result c).Else-not-accepted)) in
    omega (arith, few, few_jobs W, c.size_of-size.ensures)

pub returns : goal.returns
returns c =
    let (R, m) = c.requires in
    let O = accepted ((goal.at.returns c).Else-not-accepted) in
    says_5 c.args.o.tells _ _ R O m c.size_of-size.ensures (search rules) c.write_carry.ensures
