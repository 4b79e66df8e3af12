-- The order is that of the starts. Assumes nothing.
use Prim.Native.Nat.{ℕ}
use mathlib.Core.Path.{◌≡◌, ◌∙◌, ap, subst}
use mathlib.Core.List.{List}
use native.Mathlib.Omega.{arith}
use lib.ListN.{length}
use Rattle.model.specs.Calls.{front}
use Rattle.sorting.specs.Sorted.{by_key}
use Rattle.exportfile.specs.LinesOf.{table_by}
use Rattle.exportfile.proofs.InStartOrder.{order_size, start_order_lem}
use Rattle.exportfile.proofs.by_start.write_sorted.Goals as goal

pub write_lines-requires : goal.write_lines-requires
write_lines-requires c =
    let a = c.args in
    let filled = c.fill_starts in
    let sorted = c.sort_by.ensures.0 ∙ ap (by_key filled.new.keys) c.requires.0.beside.0 ∙ start_order_lem _ _ filled.ensures in
    let same = ap (λ o. length (table_by a.o.file.now a.o.head.records_at o)) sorted in
    omega (arith, same, order_size a.o.file.now a.o.head.records_at (length a.keys.now), c.requires.1)

pub returns : goal.returns
returns c =
    let a = c.args in
    let filled = c.fill_starts in
    let sorted = c.sort_by.ensures.0 ∙ ap (by_key filled.new.keys) c.requires.0.beside.0 ∙ start_order_lem _ _ filled.ensures in
    let told = c.write_lines in
    subst (λ (o : List ℕ). told.new.output ≡ front (table_by a.o.file.now a.o.head.records_at o) a.output.now) sorted told.ensures
