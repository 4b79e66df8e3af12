use native.Mathlib.Omega.{arith}
use Rattle.openfile.proofs.WaysOut.{setting_uncounted, setting_miscounted, setting_cut, setting_out, setting_fine}
use Rattle.openfile.proofs.judge.open_file.Goals as goal

pub returns-then-file-lt4 : goal.returns-then-file-lt4
returns-then-file-lt4 c = setting_uncounted _ (omega arith)

pub returns-then-num_at-ne2 : goal.returns-then-num_at-ne2
returns-then-num_at-ne2 c = setting_miscounted _ (omega arith) (λ h. omega arith)

pub returns-then-file-lt-TASKS_PLACE : goal.returns-then-file-lt-TASKS_PLACE
returns-then-file-lt-TASKS_PLACE c = setting_cut _ (omega arith)

pub returns-then-not-in_range : goal.returns-then-not-in_range
returns-then-not-in_range c = setting_out _ (omega arith) c.setting_of-setting.ensures (cc)

pub returns : goal.returns
returns c = setting_fine _ (omega arith) c.setting_of-setting.ensures (cc) c.judge_tasks.ensures
