use Rattle.std.proofs.Common.{sym}
use Rattle.tx_table.proofs.Tables.{some_listed, none_listed}
use Rattle.tx_table.proofs.table.running_in.Goals as goal
use Rattle.tx_table.proofs.table.running_in.Goals.{in-Some+in_ok-push-in-Some, in-None}

pub loop-seat-preserved : goal.loop-seat-preserved
loop-seat-preserved c =
    elim c.match-seat.branch [
      | in-Some+in_ok-push-in-Some w ↦ rw (w.running-is, w.in_ok-push-in-Some.ensures.items, c.loop-seat.invariant) (sym (some_listed c.args.current.now c.loop-seat.seat-index _ c.loop-seat-test.true w.in-Some.is))
      | in-None w ↦ rw (w.running-is, c.loop-seat.invariant) (sym (none_listed c.args.current.now c.loop-seat.seat-index c.loop-seat-test.true w.in-None.is))
    ]
