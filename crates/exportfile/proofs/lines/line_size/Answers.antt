-- The digits of six numbers, and a byte after each. Assumes nothing.
use Rattle.std.proofs.Common.{rules, ◌≡◌, ◌<◌, ◌^◌, sum, map, arith}
use Rattle.std.proofs.lemmas.Iterator.{YieldsList-from_map, YieldsList-from_slice}
use Rattle.std.proofs.lemmas.Iterator.Consumers.{sum_from_yields_List, fits_from_yields_list}
use borrow.Author.Tests.{tests}
use Rattle.model.specs.File.{record_numbers}
use Rattle.exchange.proofs.LineLaws.{length-line}
use Rattle.exportfile.proofs.LineBytes.{digits, line_numbers}
use Rattle.exportfile.proofs.lines.line_size.Goals as goal
use Rattle.exportfile.proofs.lines.line_size.Goals.{After-sum}

pub sum-requires-clause-fits : goal.sum-requires-clause-fits
sum-requires-clause-fits c =
    let x = c.args.x in
    let few : sum (map digits (record_numbers x)) < 2 ^ 64 = omega (arith, line_numbers x, length-line x) in
    fits_from_yields_list c.map.result _
    (YieldsList-from_map _ digits (YieldsList-from_slice (record_numbers x) (cc)) c.map.ensures.closure (λ x r q k. search (rules, tests))) few

digits_told : (c : After-sum) → c.sum.result ≡ sum (map digits (record_numbers c.args.x))
digits_told c =
    sum_from_yields_List c.map.result _ c.sum.ensures.ran
    (YieldsList-from_map _ digits (YieldsList-from_slice (record_numbers c.args.x) (cc)) c.map.ensures.closure (λ x r q k. search (rules, tests)))

pub overflow_add-result : goal.overflow_add-result
overflow_add-result c = omega (arith, digits_told c, line_numbers c.args.x, length-line c.args.x)

pub returns : goal.returns
returns c = omega (arith, digits_told c, line_numbers c.args.x)
