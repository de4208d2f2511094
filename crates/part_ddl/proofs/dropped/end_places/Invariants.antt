use Rattle.std.proofs.Common.{drop}
use Rattle.history.specs.Transactions.{session_of}
use Rattle.history.specs.History.{History, tx_events}
use Rattle.tx_table.specs.Stands.{TableStands}
use Rattle.part_catalog.specs.Stands.{CatalogueStands}
use Rattle.part_ddl.specs.Dropped.{MayEndAll}
use Rattle.part_ddl.proofs.Going.{Ending}
use Rattle.part_ddl.proofs.dropped.end_places.Given as goal

abbrev pub invariant-loop-table : goal.invariant-loop-table
invariant-loop-table l = record {
  may : MayEndAll l.txs l.catalog l.by (drop l.table-index l.tables);
  ending : (h : History) → TableStands l.txs h → CatalogueStands l.fn.catalog h → Ending l.txs l.catalog (session_of (tx_events h) l.by.number) (record { by = l.by; cmd = l.cmd }) h (drop l.table-index l.tables) l.tables;
}
