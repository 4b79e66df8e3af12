-- A turn puts what stands of the next job into its row. Assumes nothing.
use mathlib.Core.Path.{sym, ◌∙◌}
use borrow.Author.Rules.{rules}
use Rattle.standing.proofs.RecordRows.{task_there, arrival_fits, place_fits, opening_on}
use Rattle.standing.proofs.records.open_records.Goals as goal

pub bounds-tasks-i : goal.bounds-tasks-i
bounds-tasks-i c = task_there c.loop-k.invariant c.loop-k-test.true

pub standing-x-requires : goal.standing-x-requires
standing-x-requires c = arrival_fits c.loop-k.invariant c.loop-k-test.true

pub map_or-near-requires : goal.map_or-near-requires
map_or-near-requires c = λ x e w.
    let l = place_fits c.loop-k.invariant c.loop-k-test.true (λ ρ T J q. sym e ∙ c.record_near-found.ensures ρ T J q) in
    search rules

pub loop-k-preserved : goal.loop-k-preserved
loop-k-preserved c =
    opening_on
    c.loop-k.invariant c.loop-k-test.true (λ ρ T J e. c.standing-x.ensures ρ T e (c.record_near-found.ensures ρ T J e))
    c.put_row.ensures
