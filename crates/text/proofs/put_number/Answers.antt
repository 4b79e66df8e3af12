-- The digits, and the byte after them. Assumes nothing.
use native.Mathlib.Omega.{arith}
use Rattle.text.proofs.Paste.{wrote_more}
use Rattle.text.proofs.put_number.Goals as goal

pub returns : goal.returns
returns c = wrote_more c.put_decimal-next.ensures c.put_byte.ensures (omega arith)
