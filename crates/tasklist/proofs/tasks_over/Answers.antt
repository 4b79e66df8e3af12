-- As many tasks as `planned` says are stored in a list that is filled with one task. Assumes nothing.
use mathlib.Core.Path.{◌∙◌, ap}
use mathlib.Core.List.{◌++◌}
use lib.ListN.{drop, replicate, length-replicate}
use Rattle.model.specs.File.{tasks_in}
use Rattle.model.specs.Model.{most_tasks}
use Rattle.tasklist.proofs.tasks_over.Goals as goal

pub filled-requires : goal.filled-requires
filled-requires c =
    let fill = c.args.fill in
    let P = c.planned.ensures (replicate most_tasks fill) (length-replicate most_tasks fill) in
    rw c.unwrap_or-n.ensures (record { there = P.there; room = P.room })

pub returns : goal.returns
returns c =
    let fill = c.args.fill in
    c.filled.ensures ∙ ap (λ n. tasks_in c.args.file.now n ++ drop n (replicate most_tasks fill)) c.unwrap_or-n.ensures ∙ (c.planned.ensures (replicate most_tasks fill) (length-replicate most_tasks fill)).stored
