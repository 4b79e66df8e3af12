-- All jobs that wait start, turn by turn. Assumes nothing.
use Prim.Native.Nat.{max}
use mathlib.Core.Path.{sym, ◌∙◌}
use native.Mathlib.Omega.{arith}
use Rattle.model.specs.Carry.{opening}
use Rattle.table.specs.Table.{column_of}
use Rattle.starts.specs.Choice.{Chosen}
use Rattle.starts.proofs.AllTurns.{Reached, on_core, reached_first, in_table, core_free, reached_on, fewer_left, comes_done}
use Rattle.starts.proofs.start_all.Goals as goal
use Rattle.starts.proofs.start_all.Goals.{In-Some}

-- the job that is found
found : (c : In-Some)
    → let t = c.loop-start.t in
    let n = c.args.n in
    Chosen n (max c.loop-start.at c.loop-start.free.least) (column_of n t 5) (column_of n t 1) (column_of n t 12) (column_of n t 11)
    c.in-Some.start c.in-Some.k
found c = rw c.later.ensures at (c.next_job.ensures.chosen _ _ c.in-Some.is)

-- how far the carry of the run at hand has come
reached : (c : In-Some)
    → let a = c.args in
    let p = c.requires in
    Reached (opening p.0 p.1) a.horizon c.loop-start.t a.n c.loop-start.free c.loop-start.at
reached c = let p = c.requires in c.loop-start.invariant.reached p.0 p.1 p.2

pub new-free-requires : goal.new-free-requires
new-free-requires c =
    let X = c.requires.2 in
    let end = c.column.ensures in
    let core = c.column-2.ensures in (
      omega (arith, X.limits.setting.cores),
      omega (arith, X.limits.setting.cores),
      record { beside = (end.1 ∙ sym core.1, tt); cores = on_core X end.0 core.0 core.1 },
    )

pub loop-start-init : goal.loop-start-init
loop-start-init c =
    let end = c.column.ensures in
    let core = c.column-2.ensures in
    let free = c.new-free.ensures in
    record { reached = λ ρ H' X. reached_first X end.0 core.0 core.1 free.0 free.1 free.2 }

pub bounds-t-n : goal.bounds-t-n
bounds-t-n c = let s = (goal.at.bounds-t-n c).In-Some in omega (arith, in_table (reached s) (found s))

pub overflow_add-end : goal.overflow_add-end
overflow_add-end c = let s = (goal.at.overflow_add-end c).In-Some in let f = in_table (reached s) (found s) in omega (arith, f, f.1.few)

pub offset_bounds-t-n : goal.offset_bounds-t-n
offset_bounds-t-n c = let s = (goal.at.offset_bounds-t-n c).In-Some in let f = in_table (reached s) (found s) in omega (arith, f, f.1.few)

pub overflow_add-end-in-Some : goal.overflow_add-end-in-Some
overflow_add-end-in-Some c = let s = (goal.at.overflow_add-end-in-Some c).In-Some in omega (arith, in_table (reached s) (found s))

pub take-core-requires : goal.take-core-requires
take-core-requires c =
    let s = (goal.at.take-core-requires c).In-Some in
    core_free (reached s) (found s)

pub put_start-requires : goal.put_start-requires
put_start-requires c =
    let s = (goal.at.put_start-requires c).In-Some in
    let f = in_table (reached s) (found s) in
    (f.1, f.0)

pub loop-start-smaller : goal.loop-start-smaller
loop-start-smaller c =
    let s = (goal.at.loop-start-smaller c).In-Some in
    fewer_left (reached s) (found s) c.take-core.ensures c.put_start.ensures

pub loop-start-preserved : goal.loop-start-preserved
loop-start-preserved c =
    let s = (goal.at.loop-start-preserved c).In-Some in
    record {
      reached = λ ρ H' X. reached_on (c.loop-start.invariant.reached ρ H' X) (found s) c.take-core.ensures c.put_start.ensures;
    }

pub returns : goal.returns
returns c = comes_done c.loop-start.invariant (c.next_job.ensures.nobody c.in_default.is)
