-- Six numbers, each from where the one before it ends. Assumes nothing.
use native.Mathlib.Omega.{arith}
use Rattle.text.proofs.Paste.{wrote_more}
use Rattle.exportfile.proofs.LineBytes.{line_numbers, past_number, wrote_record}
use Rattle.exportfile.proofs.lines.put_record.Goals as goal

pub put_number-job-requires : goal.put_number-job-requires
put_number-job-requires c = omega (arith, line_numbers c.args.x)

pub put_number-release-requires : goal.put_number-release-requires
put_number-release-requires c = omega (arith, line_numbers c.args.x, past_number _ _ c.put_number-job.ensures)

pub put_number-start-requires : goal.put_number-start-requires
put_number-start-requires c =
    omega (arith, line_numbers c.args.x, past_number _ _ c.put_number-job.ensures, past_number _ _ c.put_number-release.ensures)

pub put_number-end-requires : goal.put_number-end-requires
put_number-end-requires c =
    let first = past_number _ _ c.put_number-job.ensures in
    let second = past_number _ _ c.put_number-release.ensures in
    let third = past_number _ _ c.put_number-start.ensures in
    omega (arith, line_numbers c.args.x, first, second, third)

pub put_number-core-requires : goal.put_number-core-requires
put_number-core-requires c =
    let first = past_number _ _ c.put_number-job.ensures in
    let second = past_number _ _ c.put_number-release.ensures in
    let third = past_number _ _ c.put_number-start.ensures in
    let fourth = past_number _ _ c.put_number-end.ensures in
    omega (arith, line_numbers c.args.x, first, second, third, fourth)

pub put_number-requires : goal.put_number-requires
put_number-requires c =
    let first = past_number _ _ c.put_number-job.ensures in
    let second = past_number _ _ c.put_number-release.ensures in
    let third = past_number _ _ c.put_number-start.ensures in
    let fourth = past_number _ _ c.put_number-end.ensures in
    let fifth = past_number _ _ c.put_number-core.ensures in
    omega (arith, line_numbers c.args.x, first, second, third, fourth, fifth)

pub returns : goal.returns
returns c =
    let x = c.args.x in
    let size = line_numbers x in
    let first = past_number _ _ c.put_number-job.ensures in
    let second = past_number _ _ c.put_number-release.ensures in
    let third = past_number _ _ c.put_number-start.ensures in
    let fourth = past_number _ _ c.put_number-end.ensures in
    let fifth = past_number _ _ c.put_number-core.ensures in
    let w₂ = wrote_more c.put_number-job.ensures c.put_number-release.ensures (omega (arith, size, first)) in
    let w₃ = wrote_more w₂ c.put_number-start.ensures (omega (arith, size, first, second)) in
    let w₄ = wrote_more w₃ c.put_number-end.ensures (omega (arith, size, first, second, third)) in
    let w₅ = wrote_more w₄ c.put_number-core.ensures (omega (arith, size, first, second, third, fourth)) in
    wrote_record x (wrote_more w₅ c.put_number.ensures (omega (arith, size, first, second, third, fourth, fifth)))
