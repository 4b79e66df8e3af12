-- The file's own refusals, those of the lines, and then the rest. Assumes nothing.
use mathlib.Core.Path.{sym, subst}
use Rattle.std.proofs.lemmas.Result.{err_from_is_err_and}
use lib.Seq.{length-take-le}
use Rattle.model.specs.Answers.{five_written}
use Rattle.importfile.specs.LeftByImport.{Imports}
use Rattle.importfile.proofs.WaysOfImport.{says_refused, says_line, says_taken, fault_of, rows_of}
use Rattle.importfile.proofs.file.import.Goals as goal

pub returns-in_err-o : goal.returns-in_err-o
returns-in_err-o c =
    let p = err_from_is_err_and c.from_residual.result c.from_residual.ensures.1 in
    rw (p.1, p.2) (says_refused _ _ _ _ _ c.in_err-o.ensures)

pub returns-in_err-n : goal.returns-in_err-n
returns-in_err-n c =
    let a = c.args in
    let p = err_from_is_err_and c.from_residual-in_err-n.result c.from_residual-in_err-n.ensures.1 in
    subst (λ f. Imports f.now a.table.now a.output.now (five_written c.from_residual-in_err-n.result) a.output.now) c.in_ok-o.ensures
    (rw (p.1, p.2) (says_line c.in_ok-o.o.tells _ _ _ (fault_of _ c.read_lines.ensures.0 c.in_err-n.was)))

pub slice_bounds-rows-end : goal.slice_bounds-rows-end
slice_bounds-rows-end c = (rows_of _ c.read_lines.ensures.0 _ c.read_lines.ensures.1 c.in_ok-n.was).0

pub slice_bounds-import_rows-end : goal.slice_bounds-import_rows-end
slice_bounds-import_rows-end c = sym (length-take-le _ _ (rows_of _ c.read_lines.ensures.0 _ c.read_lines.ensures.1 c.in_ok-n.was).0)

pub import_rows-requires : goal.import_rows-requires
import_rows-requires c = (rows_of _ c.read_lines.ensures.0 _ c.read_lines.ensures.1 c.in_ok-n.was).2

pub returns : goal.returns
returns c =
    let a = c.args in
    let rows = rows_of _ c.read_lines.ensures.0 _ c.read_lines.ensures.1 c.in_ok-n.was in
    subst (λ f. Imports f.now a.table.now a.output.now (five_written c.import_rows.result) c.import_rows.new.output) c.in_ok-o.ensures
    (says_taken c.in_ok-o.o.tells _ a.output.now rows.1 c.import_rows.ensures)
