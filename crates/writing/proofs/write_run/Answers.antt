use native.Mathlib.Omega.{arith}
use borrow.Author.Rules.{rules}
use Rattle.writing.proofs.Writing.{listed_long, wrote_put, wrote_run}
use Rattle.writing.proofs.write_run.Goals as goal

pub returns : goal.returns
returns c σ T =
    wrote_run
    T c.write_head.ensures c.write_tasks.ensures (omega (arith, listed_long T)) (wrote_put c.put_u32.ensures (search rules))
    c.write_records.ensures
