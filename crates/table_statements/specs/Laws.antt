-- What a transaction has to hold before it drops a table (the manual, DROP TABLE; 13.3.1).
use Rattle.std.specs.Prelude.{◌≡◌, ℕ, Some, All, Contains}
use Rattle.history.specs.declared.transaction.TxId.{TxId}
use Rattle.history.specs.declared.catalogue.Entry.{Entry}
use Rattle.history.specs.Transactions.{open_of}
use Rattle.history.specs.History.{History, tx_events}
use Rattle.history.specs.Legal.{IsLegal}
use Rattle.history.specs.Presence.{entries_present}
use Rattle.tx_table.specs.Kept.{KeptTable}
use Rattle.tx_table.specs.Stands.{TableStands}
use Rattle.soundness.specs.Legal.{HasTable, OwnsNow, GuardsNow, ArePermitted}
use Rattle.part_catalog.specs.Kept.{KeptCatalogue}
use Rattle.part_catalog.specs.Stands.{CatalogueStands}
use Rattle.part_ddl.specs.Below.{tables_from}
use Rattle.part_ddl.specs.Dropped.{MayDrop}

-- the session's transaction has locked the table and all below it with AE, and the table above it so that nobody else
-- changes its partitions
pub record HasLocked (h : History) (session t table : ℕ) : Type 0 where
  pub opened : open_of (tx_events h) session ≡ Some t
  pub there : HasTable h t table
  pub owned : All (λ x. OwnsNow h t x.number) (tables_from h session table)
  pub above : (e : Entry) → Contains (entries_present h session) e → e.child.number ≡ table → GuardsNow h t e.parent.number

-- in a sound history it may drop them
abbrev pub LockedTablesMayGo : Type 0
LockedTablesMayGo = (table : KeptTable) (kept : KeptCatalogue) (h : History) (session t : ℕ) (by : TxId) → TableStands table h → CatalogueStands kept h → IsLegal h → ArePermitted h → HasLocked h session by.number t → MayDrop table kept t by
