use Rattle.std.proofs.Common.{◌≡◌, drop}
use Rattle.std.specs.List.{find}
use Rattle.history.specs.History.{History, tx_events}
use Rattle.tx_table.specs.Stands.{TableStands}
use Rattle.part_catalog.specs.Stands.{pending_below}
use Rattle.part_catalog.proofs.see.pending.Given as goal

abbrev pub invariant-loop-x : goal.invariant-loop-x
invariant-loop-x l = (h : History) → TableStands l.txs h →
    find (pending_below (tx_events h) l.session l.parent) (drop l.x-index l.entries) ≡ find (pending_below (tx_events h) l.session l.parent) l.entries
