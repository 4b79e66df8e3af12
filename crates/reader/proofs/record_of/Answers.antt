-- What a reader of the file gives is its record k. Assumes nothing.
use Rattle.reader.proofs.Parts.{gives_record}
use Rattle.reader.proofs.record_of.Goals as goal

pub returns : goal.returns
returns c = gives_record _ c.open.ensures c.record.ensures
