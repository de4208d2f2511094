use Rattle.std.proofs.Common.{◌≡◌, length}
use Rattle.std.specs.List.{All}
use Rattle.std.specs.Vec.Iter.{into_iter_items, into_iter_len}
use Rattle.history.specs.History.{History}
use Rattle.tx_table.specs.Stands.{TableStands}
use Rattle.row_store.specs.Stands.{StoreStands}
use Rattle.part_catalog.specs.Stands.{CatalogueStands}
use Rattle.row_change.specs.Storing.{all_stored, FitsTargets, IsLeafKnown}
use Rattle.row_change.proofs.Rows.{Reached}
use Rattle.row_change.proofs.storing.store_rows.Given as goal

-- leaves are neither added nor lost, and the rows that are left decide what is still made
abbrev pub invariant-loop-row : goal.invariant-loop-row
invariant-loop-row l = record {
  count : into_iter_len l.row-iterator ≡ length (into_iter_items l.row-iterator);
  leaves : l.store.leaves ≡ l.initial.store.leaves;
  known : All (IsLeafKnown l.store.leaves) l.left;
  fits : All (FitsTargets l.targets) (into_iter_items l.row-iterator);
  made : (h : History) → TableStands l.txs h → CatalogueStands l.catalog h → StoreStands l.initial.store h → Reached l.txs l.catalog l.store h (all_stored l.targets l.by l.cmd h l.leaves l.fn.rows.items) (λ g. all_stored l.targets l.by l.cmd g l.left (into_iter_items l.row-iterator));
}
