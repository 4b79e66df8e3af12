-- After k numbers: number k stands where it was read, and where no line stands after it, no line of six numbers does.
use Rattle.readlines.proofs.SixNumbers.{stands_last, stands_more, stands_line, no_last, no_first, no_more, no_line, line_past}
use Rattle.readlines.proofs.line.line_at.Goals as goal

pub returns-in_err-task : goal.returns-in_err-task
returns-in_err-task c = rw c.from_residual.ensures (no_line (no_first 4 c.in_err-task.ensures))

pub returns-in_err-job : goal.returns-in_err-job
returns-in_err-job c =
    let one = c.in_ok-task.ensures.1 in
    rw c.from_residual-in_err-job.ensures (no_line (no_more 4 one (no_first 3 c.in_err-job.ensures)))

pub returns-in_err-release : goal.returns-in_err-release
returns-in_err-release c =
    let one = c.in_ok-task.ensures.1 in
    let two = c.in_ok-job.ensures.1 in
    rw c.from_residual-in_err-release.ensures (no_line (no_more 4 one (no_more 3 two (no_first 2 c.in_err-release.ensures))))

pub returns-in_err-start : goal.returns-in_err-start
returns-in_err-start c =
    let one = c.in_ok-task.ensures.1 in
    let two = c.in_ok-job.ensures.1 in
    let none = no_more 2 c.in_ok-release.ensures.1 (no_first 1 c.in_err-start.ensures) in
    rw c.from_residual-in_err-start.ensures (no_line (no_more 4 one (no_more 3 two none)))

pub returns-in_err-end : goal.returns-in_err-end
returns-in_err-end c =
    let one = c.in_ok-task.ensures.1 in
    let two = c.in_ok-job.ensures.1 in
    let none = no_more 2 c.in_ok-release.ensures.1 (no_more 1 c.in_ok-start.ensures.1 (no_first 0 c.in_err-end.ensures)) in
    rw c.from_residual-in_err-end.ensures (no_line (no_more 4 one (no_more 3 two none)))

pub returns-in_err-core : goal.returns-in_err-core
returns-in_err-core c =
    let one = c.in_ok-task.ensures.1 in
    let two = c.in_ok-job.ensures.1 in
    let three = c.in_ok-release.ensures.1 in
    let none = no_more 1 c.in_ok-start.ensures.1 (no_more 0 c.in_ok-end.ensures.1 (no_last c.in_err-core.ensures)) in
    rw c.from_residual-in_err-core.ensures (no_line (no_more 4 one (no_more 3 two (no_more 2 three none))))

pub returns : goal.returns
returns c =
    let one = c.in_ok-task.ensures.1 in
    let two = c.in_ok-job.ensures.1 in
    let three = c.in_ok-release.ensures.1 in
    let last = stands_more c.in_ok-start.ensures.1 (stands_more c.in_ok-end.ensures.1 (stands_last c.in_ok-core.ensures.1)) in
    let line = stands_line _ (stands_more one (stands_more two (stands_more three last))) in
    let within = c.in_ok-core.ensures.0 in
    (line_past _ _ _ within line, within, line)
