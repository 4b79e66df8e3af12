-- A power of ten is the least number of so many digits. Assumes nothing.
use borrow.Author.Rules.{rules}
use native.Mathlib.Omega.{arith}
use Rattle.decimal.proofs.Decimal.{length_log}
use Rattle.decimal.proofs.digit_count.Goals as goal

pub returns : goal.returns
returns c =
    let k = c.checked_ilog10 in
    omega (arith, c.unwrap_or.ensures, length_log k.result c.args.v (search rules) k.ensures.none k.ensures.power_le k.ensures.next_power_gt)
