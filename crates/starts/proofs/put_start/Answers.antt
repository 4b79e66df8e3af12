-- What a start changes of the table. Assumes nothing.
use Prim.Native.Nat.{◌+◌, ◌*◌, ◌≤◌}
use mathlib.Core.Path.{◌≡◌}
use mathlib.Core.Logic.{◌⊎◌, inl, inr}
use lib.ListN.{get_or}
use Rattle.starts.proofs.State.{lent_last, lent_next}
use Rattle.starts.proofs.put_start.Goals as goal
use Rattle.starts.proofs.put_start.Goals.{else-next-n-via-then-next-n+else-t-n-ne0, else-next-n-via-else-next-n}

-- the next job waits for the end
pub returns-then-t-n-ne0 : goal.returns-then-t-n-ne0
returns-then-t-n-ne0 c = λ σ J L e.
    lent_next L c.requires.1 c.put_row.ensures e J c.if-next-n.true c.if-t-n-ne0.true c.later-ready.ensures c.put_row-then-t-n-ne0.ensures

-- no record comes next, or one of another task
pub returns-else-next-n : goal.returns-else-next-n
returns-else-next-n c = λ σ J L e.
    let why : (c.args.n ≤ c.args.k + 1) ⊎ (get_or c.put_row.new.t (1 * c.args.n + (c.args.k + 1)) 0 ≡ 0) =
    elim c.else-next-n.branch [ else-next-n-via-then-next-n+else-t-n-ne0 w ↦ inr w.if-t-n-ne0.false | else-next-n-via-else-next-n w ↦ inl w.if-next-n.false ] in
    lent_last L c.requires.1 c.put_row.ensures e J why
