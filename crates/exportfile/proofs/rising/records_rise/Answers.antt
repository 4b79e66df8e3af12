-- Each pair of neighbours rises. Assumes nothing.
use Rattle.std.proofs.Common.{rules, ◌≡◌, sym, ap, ◌∙◌, ◌+◌, ◌<◌, ◌≤◌, ℕ, true, map, get_or, Some, arith}
use Rattle.std.proofs.iter.runs.Sources.{ranges, range_runs}
use borrow.Author.Tests.{tests}
use lib.ListN.{get_or-map}
use Rattle.exchange.specs.Import.{job_before}
use Rattle.exportfile.specs.LinesOf.{record_of}
use Rattle.exportfile.proofs.RisesOrStays.{rise_said}
use Rattle.exportfile.proofs.rising.records_rise.Goals as goal

pub returns : goal.returns
returns c =
    let a = c.args in
    let read = record_of a.o.file.now a.o.head.records_at in
    let (p, from, (whole, h)) = c.is_sorted_by.ensures.runs in
    let (q, start, run) = c.map.ensures.runs p p.seen from in
    let items : p.items ≡ map read q.items = run.3 _ (λ x r f k. search (rules, tests)) in
    let counts = range_runs q q.seen in
    let few : p.len ≤ a.o.head.records = search (rules, ranges) in
    let long : p.whole ≡ true → p.len ≡ a.o.head.records = search (rules, ranges) in
    let first : q.from.start ≡ 0 = ap (λ s. s.start) start in
    let number : (k : ℕ) → k < q.len → get_or q.items k 0 ≡ k =
    λ k l.
    let e : Some (get_or q.items k 0) ≡ Some (q.from.start + k) = sym (q.reads k 0 l) ∙ counts.3 k l in
    let z : get_or q.items k 0 ≡ q.from.start + k = cc in
    omega (arith, first) in
    rise_said a.o.file.now a.o.head.records_at p.items (read 0)
    (λ k l. ap (λ xs. get_or xs k (read 0)) items ∙ get_or-map read q.items k 0 ∙ ap read (number k (omega (arith, l, p.long, run.1))))
    a.o.head.records _ (omega (arith, p.long, few)) (λ e. let w : p.whole ≡ true = search rules in omega (arith, p.long, long w)) (h job_before (λ x y r f k. search (rules, tests))).0
