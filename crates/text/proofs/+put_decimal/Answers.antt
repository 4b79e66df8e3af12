-- A number's last digit stands after those of its tenth, which has fewer. Assumes nothing.
use native.Mathlib.Omega.{arith}
use Rattle.decimal.proofs.Decimal.{decimal_small, decimal_more, length_more}
use Rattle.text.proofs.Paste.{wrote_more}
use Rattle.text.proofs.+put_decimal.Goals as goal

pub returns-then-v-lt10 : goal.returns-then-v-lt10
returns-then-v-lt10 t c = rw (decimal_small c.args.v (omega arith)) c.put_byte.ensures

pub returns : goal.returns
returns t c =
    let v = c.args.v in
    let l = length_more v (omega arith) (omega arith) in
    rw (decimal_more v (omega arith) (omega arith)) (wrote_more c.put_decimal-next.ensures c.put_byte-2.ensures (omega arith))
