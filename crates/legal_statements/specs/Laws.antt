-- What statements do keeps what is asked of the events of a run.
use Rattle.std.specs.Prelude.{◌≡◌, ℕ, ◌<◌, Bool, List, [], ◌∷◌, ◌++◌, Some, None, false, map}
use Rattle.std.specs.List.{Contains}
use Rattle.pg_values.specs.declared.value.Value.{Value}
use Rattle.pg_values.specs.declared.ids.LeafId.{LeafId}
use Rattle.pg_values.specs.declared.ids.TableNo.{TableNo}
use Rattle.pg_values.specs.declared.lock_mode.LockMode.{LockMode}
use Rattle.bound_forms.specs.declared.level.Level.{Level}
use Rattle.history.specs.declared.catalogue.Entry.{Entry}
use Rattle.history.specs.declared.catalogue.Stamp.{Stamp}
use Rattle.history.specs.declared.catalogue.Table.{Table}
use Rattle.history.specs.declared.catalogue.Check.{Check}
use Rattle.history.specs.declared.catalogue.TableShape.TheVariants.{Level as Levels}
use Rattle.history.specs.declared.version.Version.{Version}
use Rattle.history.specs.declared.version.End.{End}
use Rattle.history.specs.declared.wait.Wanted.{Wanted}
use Rattle.history.specs.declared.wait.Wanted.TheVariants.{Lock}
use Rattle.history.specs.Snapshots.{TakenSnapshot}
use Rattle.history.specs.Rows.{RowBorn, RowEnded}
use Rattle.history.specs.Transactions.{open_of}
use Rattle.history.specs.Catalogue.{EntryAdded, EntryMarked, CheckKept, drops, entry_ends, marks, counted_of}
use Rattle.history.specs.Locks.{wanted}
use Rattle.history.specs.History.{Event, History, RowChange, CatalogueChange, LockChange, tx_events, lock_events, catalogue_events}
use Rattle.history.specs.Presence.{entries_present, is_pending}
use Rattle.history.specs.Legal.{IsLegal}
use Rattle.row_router.specs.Histories.{ddl_tree}
use Rattle.row_router.specs.Trees.{leaves}
use Rattle.row_store.specs.Judged.{refusing, seeing}
use Rattle.soundness.specs.Legal.{ArePermitted, Has, HasTable}
use Rattle.soundness.specs.Parts.{IsKnown}
use Rattle.part_catalog.specs.Found.{resolved}
use Rattle.lock_table.specs.Asked.{asked_events}
use Rattle.legal_statements.specs.Follows.{MayFollow}
use Rattle.legal_statements.specs.Below.{numbers_from, IsWholeTree}
use Rattle.legal_statements.specs.Locked.{IsOwned, IsGuarded}
use Rattle.legal_statements.specs.Drops.{IsDrop, entries_end, tables_go, IsTableDrop, table_drop}
use Rattle.legal_statements.specs.Entries.{IsScanned, IsNewPartition, IsAttached, IsSkipped, IsNewCheck, IsNewMark}
use Rattle.legal_statements.specs.Rows.{IsNewRow, IsOldRow, AreNewRows, rows_born}
use Rattle.legal_statements.specs.Stays.{LeavesTrees, ShowsTheSame}
use Rattle.legal_statements.specs.Tables.{LeavesAreThere, MakesNoLeaf, IsNewTable, IsNextLeaf, leaf_table, level_table}

-- with events that may follow the history is as it was: legal, and each event permitted
abbrev pub FollowedIsLegal : Type 0
FollowedIsLegal = (es : List Event) (h : History) → IsLegal h → ArePermitted h → MayFollow es h → IsLegal (es ++ h) × ArePermitted (es ++ h)

-- whatever comes of asking: a lock, a wait, or nothing
abbrev pub AskedMayFollow : Type 0
AskedMayFollow = (h : History) (s : ℕ) (w : Wanted) → IsLegal h → s < 128 → wanted (lock_events h) s ≡ None
    → ((table : TableNo) (m : LockMode) → w ≡ Lock table m → IsKnown (tx_events h) (catalogue_events h) s table.number)
    → MayFollow (map LockChange (asked_events (lock_events h) s w)) h

-- a new row version
abbrev pub NewRowMayFollow : Type 0
NewRowMayFollow = (h : History) (session table : ℕ) (s : TakenSnapshot) (v : Version) → IsLegal h → ArePermitted h → IsNewRow h session table s v → MayFollow (RowChange (RowBorn v) ∷ []) h

-- the end of one
abbrev pub OldRowMayFollow : Type 0
OldRowMayFollow = (h : History) (session k : ℕ) (e : End) → IsLegal h → IsOldRow h session k e → MayFollow (RowChange (RowEnded k e) ∷ []) h

-- a new table with a leaf, or a partitioned one; the leaf of each table was added then, too
abbrev pub NewLeafMayFollow : Type 0
NewLeafMayFollow = (h : History) (session : ℕ) (table : Table) (leaf : LeafId) → IsLegal h → LeavesAreThere h → IsNewTable h session table → IsNextLeaf h table leaf
    → MayFollow (leaf_table table leaf) h × LeavesAreThere (leaf_table table leaf ++ h)

abbrev pub NewLevelMayFollow : Type 0
NewLevelMayFollow = (h : History) (session : ℕ) (table : Table) (level : Level) → IsLegal h → LeavesAreThere h → IsNewTable h session table → table.shape ≡ Levels level
    → MayFollow (level_table table) h × LeavesAreThere (level_table table ++ h)

-- and it stays so whatever else comes
abbrev pub LeavesStayThere : Type 0
LeavesStayThere = (e : Event) (h : History) → MakesNoLeaf e → LeavesAreThere h → LeavesAreThere (e ∷ h)

-- what a transaction has, and has locked, no other one has dropped or ended
abbrev pub NobodyElseDrops : Type 0
NobodyElseDrops = (h : History) (session t x : ℕ) → IsLegal h → ArePermitted h → open_of (tx_events h) session ≡ Some t → HasTable h t x → IsOwned h session x → counted_of (tx_events h) (drops (catalogue_events h)) x ≡ None

abbrev pub NobodyElseEnds : Type 0
NobodyElseEnds = (h : History) (session t : ℕ) (e : Entry) → IsLegal h → ArePermitted h → open_of (tx_events h) session ≡ Some t → Has h t e → IsGuarded h session e.parent.number → counted_of (tx_events h) (entry_ends (catalogue_events h)) e.id.number ≡ None

-- entries end, and then tables are dropped; either list may be empty
abbrev pub DropMayFollow : Type 0
DropMayFollow = (h : History) (session : ℕ) (s : Stamp) (entries tables : List ℕ) → IsLegal h → ArePermitted h → IsDrop h session s entries tables → MayFollow (tables_go s tables ++ entries_end s entries) h

-- a new table becomes a partition, or one that was there
abbrev pub NewPartitionMayFollow : Type 0
NewPartitionMayFollow = (h : History) (session : ℕ) (e : Entry) → IsLegal h → ArePermitted h → IsNewPartition h session e → MayFollow (CatalogueChange (EntryAdded e) ∷ []) h

abbrev pub AttachMayFollow : Type 0
AttachMayFollow = (h : History) (session : ℕ) (e : Entry) → IsLegal h → ArePermitted h → IsAttached h session e → MayFollow (CatalogueChange (EntryAdded e) ∷ []) h

abbrev pub SkipMayFollow : Type 0
SkipMayFollow = (h : History) (session : ℕ) (e : Entry) → IsLegal h → ArePermitted h → IsSkipped h session e → MayFollow (CatalogueChange (EntryAdded e) ∷ []) h

-- the CHECK of a concurrent DETACH, or of FINALIZE
abbrev pub CheckMayFollow : Type 0
CheckMayFollow = (h : History) (session : ℕ) (c : Check) (e : Entry) → IsLegal h → ArePermitted h → IsNewCheck h session c e → MayFollow (CatalogueChange (CheckKept c) ∷ []) h

-- where no row of a table and all below it refuses, and no other session sees one that breaks the test, no row that a scan
-- judges there breaks it
abbrev pub NoneBreaks : Type 0
NoneBreaks = (h : History) (session t table : ℕ) (breaks : List Value → Bool)
    → refusing h session t (leaves (ddl_tree h session table)) breaks ≡ None → ((r : ℕ) → seeing h session (leaves (ddl_tree h session table)) breaks r ≡ false)
    → (v : Version) → IsScanned h session t table v → breaks v.row ≡ false

-- and the other way round: where no row that is judged there breaks the test, the scan finds nothing
abbrev pub NothingIsFound : Type 0
NothingIsFound = (h : History) (session t table : ℕ) (breaks : List Value → Bool) → IsLegal h → open_of (tx_events h) session ≡ Some t → ((v : Version) → IsScanned h session t table v → breaks v.row ≡ false)
    → (refusing h session t (leaves (ddl_tree h session table)) breaks ≡ None) × ((r : ℕ) → seeing h session (leaves (ddl_tree h session table)) breaks r ≡ false)

-- nor marked, where the session does not have it pending
abbrev pub NobodyElseMarks : Type 0
NobodyElseMarks = (h : History) (session t : ℕ) (e : Entry) → IsLegal h → ArePermitted h → open_of (tx_events h) session ≡ Some t → Has h t e → is_pending h session e ≡ false → IsGuarded h session e.parent.number
    → counted_of (tx_events h) (marks (catalogue_events h)) e.id.number ≡ None

-- the first stage of a concurrent DETACH
abbrev pub MarkMayFollow : Type 0
MarkMayFollow = (h : History) (session : ℕ) (e : Entry) (s : Stamp) → IsLegal h → ArePermitted h → IsNewMark h session e s → MayFollow (CatalogueChange (EntryMarked e.id.number s) ∷ []) h

-- what the lists of a session and the look-up of a name tell is there for its transaction
abbrev pub ListedIsThere : Type 0
ListedIsThere = (h : History) (session t : ℕ) (e : Entry) → IsLegal h → ArePermitted h → open_of (tx_events h) session ≡ Some t → Contains (entries_present h session) e
    → Has h t e × HasTable h t e.parent.number × HasTable h t e.child.number

abbrev pub NamedIsThere : Type 0
NamedIsThere = (h : History) (session t x : ℕ) (name : List ℕ) → IsLegal h → open_of (tx_events h) session ≡ Some t → resolved h session name ≡ Some x → HasTable h t x

-- the tree of a table, with all pending partitions, has the table and all below it, each of them once
abbrev pub TreeIsWhole : Type 0
TreeIsWhole = (h : History) (session t top : ℕ) → IsLegal h → ArePermitted h → open_of (tx_events h) session ≡ Some t → IsWholeTree h t top (numbers_from h session top)

-- so a DROP TABLE of the whole tree may follow
abbrev pub TableDropMayFollow : Type 0
TableDropMayFollow = (h : History) (session table : ℕ) (s : Stamp) → IsLegal h → ArePermitted h → IsTableDrop h session table s → MayFollow (table_drop h session table s) h

-- events of rows, locks and snapshots change no tree and no path
abbrev pub TreesStay : Type 0
TreesStay = (e : Event) (h : History) (session : ℕ) → LeavesTrees e → ShowsTheSame e h session

-- new row versions of one command, one after the other
abbrev pub NewRowsMayFollow : Type 0
NewRowsMayFollow = (h : History) (session table : ℕ) (s : TakenSnapshot) (tx cmd : ℕ) (vs : List Version) → IsLegal h → ArePermitted h → AreNewRows h session table s tx cmd vs → MayFollow (rows_born vs) h

-- a table that is there may be asked for
abbrev pub ThereIsKnown : Type 0
ThereIsKnown = (h : History) (session t x : ℕ) → open_of (tx_events h) session ≡ Some t → HasTable h t x → IsKnown (tx_events h) (catalogue_events h) session x
