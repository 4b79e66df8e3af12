-- From the place on the text has the digits of the number so far, up to the byte that is looked at. Assumes nothing.
use Rattle.decimal.proofs.DigitByDigit.{Has}
use Rattle.decimal.proofs.number_at.Given as goal

abbrev pub invariant-loop-i : goal.invariant-loop-i
invariant-loop-i l = Has l.s l.at l.i l.v
