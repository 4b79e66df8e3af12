-- From the place on the text has the digits of the number so far, up to the byte that is looked at. Assumes nothing.
use mathlib.Core.Path.{refl}
use native.Mathlib.Omega.{arith}
use Rattle.decimal.proofs.DigitByDigit.{has_first, has_more, bad_front, bad_more, bad_end}
use Rattle.decimal.proofs.number_at.Goals as goal

pub returns-in_err-get : goal.returns-in_err-get
returns-in_err-get c = let a = c.args in bad_front a.s.now a.at a.stop c.from_residual.ensures (λ h. grind arith)

pub returns-in_err-v : goal.returns-in_err-v
returns-in_err-v c = let a = c.args in bad_front a.s.now a.at a.stop c.from_residual-in_err-v.ensures (λ h. grind arith)

pub loop-i-init : goal.loop-i-init
loop-i-init c = has_first _ _ (grind arith) (grind arith) (grind arith) (grind arith)

pub returns-then-v-eq0 : goal.returns-then-v-eq0
returns-then-v-eq0 c = bad_more _ _ (omega arith) c.loop-i.invariant _ refl c.requires c.if-b-stop.false (λ h. omega (arith, h.0, c.if-v-eq0.true))

pub returns-in_err-digit : goal.returns-in_err-digit
returns-in_err-digit c =
    bad_more _ _ (omega arith) c.loop-i.invariant _ c.from_residual-in_err-digit.ensures c.requires c.if-b-stop.false (λ h. c.in_err-digit.ensures (h.1, h.2))

pub returns-then-from-w : goal.returns-then-from-w
returns-then-from-w c =
    bad_more _ _ (omega arith) c.loop-i.invariant _ refl c.requires c.if-b-stop.false (λ h. grind (arith, h.3))

pub loop-i-preserved : goal.loop-i-preserved
loop-i-preserved c = has_more _ _ (omega arith) c.loop-i.invariant ((grind arith, grind arith, grind arith, grind arith), grind arith)

pub returns : goal.returns
returns c w rest = bad_end c.loop-i.invariant (omega arith) (omega arith)
