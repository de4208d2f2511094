use Rattle.std.proofs.Common.{drop}
use Rattle.history.specs.History.{History}
use Rattle.tx_table.specs.Stands.{TableStands}
use Rattle.part_catalog.specs.Stands.{CatalogueStands}
use Rattle.part_ddl.specs.Dropped.{MayDropAll}
use Rattle.part_ddl.proofs.Going.{Dropping}
use Rattle.part_ddl.proofs.dropped.end_tables.Given as goal

abbrev pub invariant-loop-table : goal.invariant-loop-table
invariant-loop-table l = record {
  may : MayDropAll l.txs l.catalog (drop l.table-index l.tables);
  dropping : (h : History) → TableStands l.txs h → CatalogueStands l.fn.catalog h → Dropping l.txs l.catalog (record { by = l.by; cmd = l.cmd }) h (drop l.table-index l.tables) l.tables;
}
