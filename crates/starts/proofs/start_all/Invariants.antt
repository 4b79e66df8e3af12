-- All jobs that wait start, turn by turn. Assumes nothing.
use Rattle.starts.proofs.AllTurns.{Comes, left_in}
use Rattle.starts.proofs.start_all.Given as goal

abbrev pub invariant-loop-start : goal.invariant-loop-start
invariant-loop-start l = Comes l.cores l.horizon l.initial.t l.n l.t l.free l.at

abbrev pub decreases-loop-start : goal.decreases-loop-start
decreases-loop-start l = left_in l.n l.t
