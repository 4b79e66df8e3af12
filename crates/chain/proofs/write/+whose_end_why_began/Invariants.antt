-- The two questions, each of which asks the other: at each round the start is lower. Twice the start, and one more where the question is
-- why. Assumes nothing.
use Prim.Native.Nat.{◌+◌}
use Rattle.chain.specs.ChainTold.{start_in}
use Rattle.chain.proofs.write.+whose_end_why_began.Given as goal

abbrev pub decreases-whose_end : goal.decreases-whose_end
decreases-whose_end l = start_in l.t.now l.n l.k + start_in l.t.now l.n l.k

abbrev pub decreases-why_began : goal.decreases-why_began
decreases-why_began l = start_in l.t.now l.n l.k + start_in l.t.now l.n l.k + 1
