use native.Mathlib.Omega.{arith}
use borrow.Author.Rules.{rules}
use Rattle.openfile.specs.Head.{run_in}
use Rattle.carrytheory.specs.Allowed.{Allowed}
use Rattle.carryfile.proofs.EachAnswer.{allowed, counted, says_9, says_6}
use Rattle.carryfile.proofs.file.carry_run.Goals as goal
use Rattle.carryfile.proofs.file.carry_run.Goals.{Else-not-few}

pub returns-then-not-longer : goal.returns-then-not-longer
returns-then-not-longer c =
    let ρ = run_in c.args.o.file.now in
    let T = c.args.o.tells in says_9 T _ _ c.may_carry-longer.ensures (search rules)

pub returns-then-not-few : goal.returns-then-not-few
returns-then-not-few c =
    let ρ = run_in c.args.o.file.now in
    let T = c.args.o.tells in
    says_6 T _ _ c.may_carry-longer.ensures (search rules) (c.jobs_by-m.ensures) (search rules)

-- neither test refuses
reaches : (c : Else-not-few) → Allowed (run_in c.args.o.file.now) c.args.horizon
reaches c = allowed c.args.o.tells _ c.may_carry-longer.ensures (search rules) c.jobs_by-m.ensures (search rules)

pub overflow_cast-m : goal.overflow_cast-m
overflow_cast-m c =
    let ρ = run_in c.args.o.file.now in
    let T = c.args.o.tells in
    omega (arith, (reaches ((goal.at.overflow_cast-m c).Else-not-few)).few, c.jobs_by-m.ensures)

pub carry_to-requires : goal.carry_to-requires
carry_to-requires c =
    let ρ = run_in c.args.o.file.now in
    let T = c.args.o.tells in
    (reaches ((goal.at.carry_to-requires c).Else-not-few), counted ρ _ (c.jobs_by-m.ensures))

pub returns : goal.returns
returns c =
    let ρ = run_in c.args.o.file.now in
    let T = c.args.o.tells in
    let m = counted ρ _ (c.jobs_by-m.ensures) in
    c.carry_to.ensures
