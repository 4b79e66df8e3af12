-- Five numbers, each at most eleven bytes with the byte after it. Assumes nothing.
use mathlib.Core.Path.{◌≡◌, ◌∙◌, ap}
use mathlib.Core.List.{[], ◌∷◌}
use lib.ListN.{get_or, length}
use native.Mathlib.Omega.{arith}
use Rattle.model.specs.Answers.{five_of}
use Rattle.model.specs.Calls.{numbers}
use Rattle.model.specs.Report.{line}
use Rattle.text.specs.Paste.{pasted}
use Rattle.text.proofs.Paste.{wrote_more, wrote_few, wrote_line}
use Rattle.text.proofs.put_line.Goals as goal

pub returns : goal.returns
unfolding numbers
returns c =
    let e = c.numbers_of-n.ensures in
    let r₁ = wrote_few _ _ c.put_number-code.ensures in
    let r₂ = wrote_few _ _ c.put_number-x.ensures in
    let r₃ = wrote_few _ _ c.put_number-y.ensures in
    let r₄ = wrote_few _ _ c.put_number-z.ensures in
    let r₅ = wrote_few _ _ c.put_number.ensures in
    let w₂ = wrote_more c.put_number-code.ensures c.put_number-x.ensures (omega arith) in
    let w₃ = wrote_more w₂ c.put_number-y.ensures (omega arith) in
    let w₄ = wrote_more w₃ c.put_number-z.ensures (omega arith) in
    let w = wrote_line _ _ _ _ _ (wrote_more w₄ c.put_number.ensures (omega arith)) in
    let five : get_or c.numbers_of-n.result 0 0 ∷ get_or c.numbers_of-n.result 1 0 ∷ get_or c.numbers_of-n.result 2 0 ∷ get_or c.numbers_of-n.result 3 0
    ∷ get_or c.numbers_of-n.result 4 0 ∷ [] ≡ numbers (five_of c.args.a) =
    (λ κ. get_or (e κ) 0 0 ∷ get_or (e κ) 1 0 ∷ get_or (e κ) 2 0 ∷ get_or (e κ) 3 0 ∷ get_or (e κ) 4 0 ∷ []) in
    (w.0 ∙ ap (λ l. length (line l)) five, omega arith, w.1 ∙ ap (λ l. pasted c.args.text.now 0 (line l)) five)
