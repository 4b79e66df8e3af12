-- The invariant: so far the table was read line by line, the records stand at the front of the rows, and their jobs have left their marks.
-- The measure is what is left of the table. Assumes nothing.
use Rattle.std.specs.Prelude.{None, Some}
use Prim.Native.Nat.{◌+◌, ◌≤◌, ◌<◌}
use mathlib.Core.Path.{◌≡◌, refl}
use native.Mathlib.Omega.{arith}
use borrow.Author.Rules.{rules}
use lib.ListN.{length, drop}
use Rattle.std.proofs.lemmas.Result.{err_from_is_err_and}
use Rattle.model.specs.declared.refusal.Refusal.TheVariants.{BadLine}
use Rattle.exchange.specs.RecordLine.{LineFirst}
use Rattle.readlines.proofs.LineByLine.{good_of, bad_of, scan_starts, scan_unmarked, scan_end, scan_bad, scan_many, scan_given, scan_on}
use Rattle.readlines.proofs.scan.scan_lines.Goals as goal
use Rattle.readlines.proofs.scan.scan_lines.Goals.{After-slot_of-slot}

pub loop-at-init : goal.loop-at-init
loop-at-init c = let (room, places, headed) = c.requires in scan_starts _ _ _ headed room places

pub returns-in_err-x : goal.returns-in_err-x
returns-in_err-x c =
    let p = err_from_is_err_and c.from_residual.result c.from_residual.ensures.1 in
    let none : c.line_at.result ≡ None = grind (arith, c.in_err-x.ensures.value) in
    let bad : c.in_err-x.field-0.0 ≡ BadLine (c.loop-at.n + 2) = grind (arith, c.in_err-x.ensures.value) in
    rw (p.1, p.2, bad) (scan_bad _ _ _ _ _ _ c.loop-at.invariant (search rules) (bad_of c.args.table.now c.loop-at.at c.line_at.ensures none))

-- the line that was read
line : (c : After-slot_of-slot) → let T = c.args.table.now in let at = c.loop-at.at in let next = c.in_ok-x.next in
    (at < next) × (next ≤ length T) × LineFirst (drop at T) c.in_ok-x.x (drop next T)
line c = let e : c.line_at.result ≡ Some (c.in_ok-x.x, c.in_ok-x.next) = grind arith in good_of _ _ c.line_at.ensures e

pub given_before-given-requires : goal.given_before-given-requires
given_before-given-requires c = scan_unmarked _ _ _ _ _ _ c.loop-at.invariant c.in_ok-x.x c.slot_of-slot.ensures.0

pub returns-then-n-eq-MOST : goal.returns-then-n-eq-MOST
returns-then-n-eq-MOST c =
    let read = line ((goal.at.returns-then-n-eq-MOST c).After-slot_of-slot) in
    scan_many _ _ _ _ _ _ c.loop-at.invariant (search rules) read.2 c.if-n-eq-MOST.true

pub returns-then-given : goal.returns-then-given
returns-then-given c =
    let read = line ((goal.at.returns-then-given c).After-slot_of-slot) in
    scan_given _ _ _ _ _ _ c.loop-at.invariant (search rules) read.2 (search rules) c.given_before-given.ensures c.if-given.true

pub loop-at-smaller : goal.loop-at-smaller
loop-at-smaller c = let read = line ((goal.at.loop-at-smaller c).After-slot_of-slot) in omega (arith, read.0, read.1)

pub loop-at-preserved : goal.loop-at-preserved
loop-at-preserved c =
    let read = line ((goal.at.loop-at-preserved c).After-slot_of-slot) in
    scan_on _ _ _ _ _ _ c.loop-at.invariant (search rules) read.2 (search rules) c.given_before-given.ensures refl c.if-given.false c.slot_of-slot.ensures

pub returns : goal.returns
returns c = scan_end _ _ _ _ _ _ c.loop-at.invariant (search rules)
