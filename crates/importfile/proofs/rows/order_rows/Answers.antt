-- The keys, and then the order. Assumes nothing.
use mathlib.Core.Path.{◌∙◌, ap}
use Rattle.sorting.specs.Sorted.{by_key}
use Rattle.importfile.proofs.InOrder.{numbers_of, in_rows}
use Rattle.importfile.proofs.rows.order_rows.Goals as goal

pub returns : goal.returns
returns c =
    let (W, O) = c.requires in
    let keys = c.fill_keys.ensures in
    let e = c.sort_by.ensures.0 ∙ ap (by_key c.fill_keys.new.keys) O.1 in
    (numbers_of W keys e, in_rows W keys e)
