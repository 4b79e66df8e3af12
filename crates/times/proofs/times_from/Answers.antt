-- A turn puts the times of the next record into its row. Assumes nothing.
use Rattle.times.proofs.RowAfterRow.{filling_on, number_below, asks}
use Rattle.times.proofs.times_from.Goals as goal

pub bounds-tasks-t : goal.bounds-tasks-t
bounds-tasks-t c = number_below c.loop-k.invariant c.loop-k-test.true

pub put_times-requires : goal.put_times-requires
put_times-requires c = asks c.loop-k.invariant c.loop-k-test.true

pub loop-k-preserved : goal.loop-k-preserved
loop-k-preserved c = filling_on c.loop-k.invariant c.loop-k-test.true c.put_times.auto.t c.put_times.ensures
