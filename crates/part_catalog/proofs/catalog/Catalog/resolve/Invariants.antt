use Rattle.std.proofs.Common.{◌≡◌, IfSome, length}
use Rattle.history.specs.History.{History, tx_events}
use Rattle.tx_table.specs.Stands.{TableStands}
use Rattle.part_catalog.specs.Names.{last_below}
use Rattle.part_catalog.specs.Stands.{there_by}
use Rattle.part_catalog.proofs.Found.{from_here, named_and, steps_left, IsNamed}
use Rattle.part_catalog.proofs.catalog.Catalog.resolve.Given as goal

abbrev pub invariant-loop-next : goal.invariant-loop-next
invariant-loop-next l = record {
  known : IfSome l.next (IsNamed l.self.tables l.name);
  found : (h : History) → TableStands l.txs h → from_here (named_and (there_by (tx_events h) l.session) l.self.tables l.name) l.next ≡ last_below (named_and (there_by (tx_events h) l.session) l.self.tables l.name) (length l.self.tables);
}

abbrev pub decreases-loop-next : goal.decreases-loop-next
decreases-loop-next l = steps_left l.next
