use Rattle.std.proofs.Common.{◌≡◌, take}
use Rattle.tx_table.specs.Kept.{somes}
use Rattle.tx_table.proofs.table.running_in.Given as goal

abbrev pub invariant-loop-seat : goal.invariant-loop-seat
invariant-loop-seat l = l.running.items ≡ somes (take l.seat-index l.current)
