-- The columns that a choice is made of, of a table. Assumes nothing.
use borrow.Author.Rules.{rules}
use Rattle.starts.proofs.OneTurn.{first_job_lem}
use Rattle.starts.proofs.next_job.Goals as goal

pub choose-requires : goal.choose-requires
choose-requires c =
    let (σ, J, T) = c.requires in
    record { beside = search rules; first_job_lem = rw c.column-2.ensures.0 (first_job_lem J T) }
