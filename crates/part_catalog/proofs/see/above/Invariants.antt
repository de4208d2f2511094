use Rattle.std.proofs.Common.{◌≡◌, drop}
use Rattle.std.specs.List.{find}
use Rattle.history.specs.History.{History, tx_events}
use Rattle.tx_table.specs.Stands.{TableStands}
use Rattle.part_catalog.specs.Stands.{above_by}
use Rattle.part_catalog.proofs.see.above.Given as goal

abbrev pub invariant-loop-x : goal.invariant-loop-x
invariant-loop-x l = (h : History) → TableStands l.txs h →
    find (above_by (tx_events h) l.session l.child) (drop l.x-index l.entries) ≡ find (above_by (tx_events h) l.session l.child) l.entries
