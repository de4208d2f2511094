use Rattle.history.specs.History.{History, tx_events}
use Rattle.tx_table.specs.Stands.{TableStands}
use Rattle.part_catalog.specs.Stands.{present_by}
use Rattle.part_catalog.proofs.Partitions.{NoneBehind}
use Rattle.part_catalog.proofs.see.last_present.Given as goal

abbrev pub invariant-loop-i : goal.invariant-loop-i
invariant-loop-i l = (h : History) → TableStands l.txs h → NoneBehind (present_by (tx_events h) l.session) l.entries l.numbers l.i
