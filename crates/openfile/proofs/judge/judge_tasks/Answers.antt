use Rattle.std.proofs.lemmas.Result.{err_from_is_err_and}
use native.Mathlib.Omega.{arith}
use Rattle.model.proofs.Reading.{length-entries}
use Rattle.openfile.proofs.WaysOut.{tasks_uncounted, tasks_miscounted, tasks_cut, tasks_out, jobs_many, tasks_fine}
use Rattle.openfile.proofs.Tallied.{tallied_err, tallied_jobs}
use Rattle.openfile.proofs.judge.judge_tasks.Goals as goal

pub returns-then-file : goal.returns-then-file
returns-then-file c = tasks_uncounted _ _ (omega arith)

pub returns-then-n-lt1 : goal.returns-then-n-lt1
returns-then-n-lt1 c = tasks_miscounted _ _ (omega arith) (λ h. omega arith)

pub returns-then-file-records_place : goal.returns-then-file-records_place
returns-then-file-records_place c = tasks_cut _ _ (omega arith)

pub returns-then-jobs : goal.returns-then-jobs
returns-then-jobs c = jobs_many _ _ (omega arith) c.num_at-n.ensures (tallied_jobs c.tally_tasks.ensures c.in_ok-jobs.was) (omega arith)

pub returns-in_err-jobs : goal.returns-in_err-jobs
returns-in_err-jobs c =
    let (i, e, out) = tallied_err c.tally_tasks.ensures c.in_err-jobs.was in
    let p = err_from_is_err_and c.from_residual.result c.from_residual.ensures.1 in
    rw (p.1, p.2, e) (tasks_out _ _ (omega arith) c.num_at-n.ensures out)

pub returns : goal.returns
returns c = tasks_fine _ _ (omega arith) c.num_at-n.ensures (tallied_jobs c.tally_tasks.ensures c.in_ok-jobs.was) (omega arith) (c.judge_records.ensures _ (length-entries _ _ _ _))
