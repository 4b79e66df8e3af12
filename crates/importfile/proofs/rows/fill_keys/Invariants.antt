-- One key after the other. Assumes nothing.
use Rattle.base.specs.Fill.{Fills}
use Rattle.importfile.specs.Importable.{key_in}
use Rattle.importfile.proofs.rows.fill_keys.Given as goal

abbrev pub invariant-loop-k : goal.invariant-loop-k
invariant-loop-k l = Fills l.initial.keys 0 l.k (key_in l.rows) l.keys
