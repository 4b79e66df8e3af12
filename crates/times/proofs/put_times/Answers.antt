-- The times fit in four bytes, and are those of the record. Assumes nothing.
use mathlib.Core.Path.{refl, ap}
use mathlib.Core.List.{[], ◌∷◌}
use native.Mathlib.Omega.{arith}
use Prim.Native.Nat.{◌+◌}
use Rattle.times.specs.declared.Stage.TheVariants.{Release, Length, Order}
use Rattle.times.proofs.TimesOfRecord.{filled, L, times_fit, times_on}
use Rattle.times.proofs.put_times.Goals as goal

pub overflow_cast-earliest : goal.overflow_cast-earliest
overflow_cast-earliest c =
    let (l, (σ, J, R, e)) = c.requires in
    omega (arith, times_fit c.args.stage J R e l, c.arrival-earliest.ensures)

pub overflow_add-latest : goal.overflow_add-latest
overflow_add-latest c =
    let (l, (σ, J, R, e)) = c.requires in
    omega (arith, times_fit c.args.stage J R e l, c.arrival-earliest.ensures)

pub overflow_cast-due : goal.overflow_cast-due
overflow_cast-due c =
    let (l, (σ, J, R, e)) = c.requires in
    omega (arith, times_fit c.args.stage J R e l, c.deadline-due.ensures)

pub returns-in-Release : goal.returns-in-Release
unfolding filled
returns-in-Release c = λ σ J R e.
    times_on c.args.stage J R e c.requires.0 Release c.in-Release.is
    (ap (λ a. a ∷ (a + c.args.task.jitter) ∷ []) c.arrival-earliest.ensures) c.put_row.ensures

pub returns-in-Length : goal.returns-in-Length
unfolding filled
returns-in-Length c = λ σ J R e.
    times_on c.args.stage J R e c.requires.0 Length c.in-Length.is refl c.put_row-in-Length.ensures

pub returns-in-Order : goal.returns-in-Order
unfolding filled
returns-in-Order c = λ σ J R e.
    let due = c.deadline-due.ensures in
    let ready = c.ready_at-ready.ensures σ J (L c.args.stage J R e c.requires.0) in
    times_on c.args.stage J R e c.requires.0 Order c.in-Order.is (λ κ. due κ ∷ due κ ∷ ready κ ∷ []) c.put_row-in-Order.ensures
