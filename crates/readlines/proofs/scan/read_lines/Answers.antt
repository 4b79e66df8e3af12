-- The header, and then the lines. Assumes nothing.
use borrow.Author.Rules.{rules}
use Rattle.readlines.proofs.LineByLine.{scan_headless, scan_headed}
use Rattle.readlines.proofs.scan.read_lines.Goals as goal

pub returns-then-not-starts_with : goal.returns-then-not-starts_with
returns-then-not-starts_with c = scan_headless _ c.header_line.ensures c.starts_with.ensures.value _ (search rules)

pub scan_lines-requires : goal.scan_lines-requires
scan_lines-requires c =
    (c.requires, search rules, scan_headed c.args.table.now c.header_line.ensures c.starts_with.ensures.value (search rules))
