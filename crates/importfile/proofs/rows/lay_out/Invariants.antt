-- Row after row. Assumes nothing.
use mathlib.Core.Path.{◌≡◌}
use Rattle.model.specs.Model.{Run}
use Rattle.table.specs.Table.{Sized, Lent, Rows, recorded}
use Rattle.importfile.specs.Importable.{in_order}
use Rattle.importfile.proofs.rows.lay_out.Given as goal

abbrev pub invariant-loop-k : goal.invariant-loop-k
invariant-loop-k l =
    Sized l.t l.n × ((σ : Run) → σ.records ≡ in_order l.rows l.order → Lent 0 σ l.initial.t l.n → Rows 0 recorded l.k σ l.t l.n)
