-- Events of rows, locks and snapshots change no tree and no path.
use Rattle.std.proofs.Common.{refl}
use Rattle.history.specs.History.{TxChange, SnapshotChange, RowChange, CatalogueChange, LockChange}
use Rattle.row_router.specs.Histories.{tree_of, ddl_tree, path_of}
use Rattle.legal_statements.specs.Laws.{TreesStay}

pub trees_stay : TreesStay
unfolding tree_of ddl_tree path_of
trees_stay (TxChange e) h session leaves = absurd leaves
trees_stay (CatalogueChange e) h session leaves = absurd leaves
trees_stay (SnapshotChange e) h session leaves = record { entries = refl; tree = λ table s. refl; ddl = λ table. refl; path = λ table. refl }
trees_stay (RowChange e) h session leaves = record { entries = refl; tree = λ table s. refl; ddl = λ table. refl; path = λ table. refl }
trees_stay (LockChange e) h session leaves = record { entries = refl; tree = λ table s. refl; ddl = λ table. refl; path = λ table. refl }
