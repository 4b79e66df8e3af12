use Rattle.openfile.proofs.WholeOrRefused.{ok_tells, err_tells}
use Rattle.reader.proofs.SectionStarts.{starts_refused, starts_told}
use Rattle.reader.proofs.starts_of.Goals as goal

pub returns-in_default : goal.returns-in_default
returns-in_default c = starts_refused _ (err_tells _ c.open_file.ensures c.in_default.is)

pub returns : goal.returns
returns c = starts_told (ok_tells _ c.open_file.ensures c.in-Ok.is).1
