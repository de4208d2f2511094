-- Which tables a statement of a session may make partitions, and which partitions it may mark pending (the manual, CREATE
-- TABLE, PARTITION OF, and ALTER TABLE, ATTACH and DETACH PARTITION).
use Rattle.std.specs.Prelude.{◌≡◌, ◌≢◌, ℕ, true, false, [], Some, None, length}
use Rattle.std.specs.List.{Contains}
use Rattle.bound_forms.specs.Accepts.{accepts, is_default}
use Rattle.history.specs.declared.version.Version.{Version}
use Rattle.history.specs.declared.catalogue.Entry.{Entry}
use Rattle.history.specs.declared.catalogue.Stamp.{Stamp}
use Rattle.history.specs.declared.catalogue.Check.{Check}
use Rattle.history.specs.declared.catalogue.TableShape.TheVariants.{Level as Levels}
use Rattle.bound_forms.specs.declared.level.Level.{Level}
use Rattle.history.specs.Snapshots.{TakenSnapshot, held_by}
use Rattle.bound_forms.specs.Within.{within}
use Rattle.history.specs.Transactions.{open_of}
use Rattle.history.specs.Catalogue.{CheckKept, tables_made, entries_added}
use Rattle.history.specs.Places.{Suits, IsCatalogueSound}
use Rattle.history.specs.Presence.{entries_present, is_pending, checks_of}
use Rattle.history.specs.History.{History, tx_events, snapshot_events, row_events, catalogue_events}
use Rattle.history.specs.Legal.{IsInOrder}
use Rattle.row_router.specs.Histories.{ddl_tree, path_of, above}
use Rattle.row_router.specs.Siblings.{CanStandTogether}
use Rattle.row_router.specs.Trees.{leaves}
use Rattle.row_router.specs.declared.path.PathTest.TheVariants.{Bounds, Checks}
use Rattle.row_router.specs.Paths.{refused}
use Rattle.soundness.specs.Versions.{IsVersion}
use Rattle.soundness.specs.Worlds.{table_in, HasLeaf, key_at}
use Rattle.soundness.specs.Kept.{Repeats}
use Rattle.soundness.specs.Legal.{HasTable, Takes, Judges}
use Rattle.part_catalog.specs.Full.{HasPlace}
use Rattle.legal_statements.specs.Below.{numbers_from}
use Rattle.legal_statements.specs.Locked.{IsOwnTable, IsOwned, IsGuarded}

-- what a scan of a table and all below it judges: the versions in the leaves of its tree, with all pending partitions
pub record IsScanned (h : History) (session t table : ℕ) (v : Version) : Type 0 where
  pub version : IsVersion (row_events h) v
  pub leaf : Contains (leaves (ddl_tree h session table)) v.leaf
  pub judged : Judges h t v

-- an entry that is present for the session is the default partition of the table
pub record IsDefaultOf (h : History) (session table : ℕ) (d : Entry) : Type 0 where
  pub present : Contains (entries_present h session) d
  pub of : d.parent.number ≡ table
  pub default : is_default d.bound ≡ true

-- an entry has a place: both tables are there, the session may change the partitions of the parent, and has locked all below
-- the default partition there; there is room, it can stand beside the others, and it takes no row from the default partition
pub record IsNewPlace (h : History) (session : ℕ) (e : Entry) : Type 0 where
  pub own : open_of (tx_events h) session ≡ Some e.by.number
  pub command : IsInOrder (Some (e.by.number, e.cmd)) h
  pub number : e.id.number ≡ length (entries_added (catalogue_events h))
  pub suits : Suits (tables_made (catalogue_events h)) e
  pub parent_there : HasTable h e.by.number e.parent.number
  pub child_there : HasTable h e.by.number e.child.number
  pub guarded : IsGuarded h session e.parent.number
  pub room : HasPlace h session e.parent.number e.child.number
  pub together : (g : Entry) → Contains (entries_present h session) g → CanStandTogether g e
  pub no_pending : (g : Entry) → Contains (entries_present h session) g → g.parent.number ≡ e.parent.number → is_pending h session g ≡ true → is_default e.bound ≡ false
  pub default_owned : (d : Entry) (x : ℕ) → IsDefaultOf h session e.parent.number d → Contains (numbers_from h session d.child.number) x → IsOwned h session x
  pub default_scanned : (d : Entry) (v : Version) → IsDefaultOf h session e.parent.number d → IsScanned h session e.by.number d.child.number v
      → accepts (key_at (catalogue_events h) e.parent.number v.row) e.bound ≡ false

-- a table that the transaction has made, with no entry and no row, becomes a partition
pub record IsNewPartition (h : History) (session : ℕ) (e : Entry) : Type 0 where
  pub place : IsNewPlace h session e
  pub made : IsOwnTable h session e.child.number
  pub another : e.parent.number ≢ e.child.number
  pub alone : (g : Entry) → Contains (entries_present h session) g → (g.parent.number ≢ e.child.number) × (g.child.number ≢ e.child.number)
  pub empty : (v : Version) → IsVersion (row_events h) v → HasLeaf (catalogue_events h) e.child.number v.leaf → ⊥

-- a table that is no partition yet, and does not stand above the parent, becomes one; nobody else may use what stands below
-- it, and each row that a scan judges there is accepted by the new partition and along the path above it, and passes the
-- CHECKs there
pub record IsAttached (h : History) (session : ℕ) (e : Entry) : Type 0 where
  pub place : IsNewPlace h session e
  pub child_owned : (x : ℕ) → Contains (numbers_from h session e.child.number) x → IsOwned h session x
  pub no_partition : above (entries_present h session) e.child.number ≡ None
  pub not_above : Contains (numbers_from h session e.child.number) e.parent.number → ⊥
  pub scanned : (v : Version) → IsScanned h session e.by.number e.child.number v → Takes h e.by.number e v.row × (refused Bounds v.row (path_of h session e.parent.number) ≡ None) × (refused Checks v.row (path_of h session e.parent.number) ≡ None)

-- the same without a scan: the parent is no partition and has no CHECK, and one of the child says all that is asked. Snapshots
-- that are open are of open transactions.
pub record IsSkipped (h : History) (session : ℕ) (e : Entry) : Type 0 where
  pub place : IsNewPlace h session e
  pub child_owned : (x : ℕ) → Contains (numbers_from h session e.child.number) x → IsOwned h session x
  pub no_partition : above (entries_present h session) e.child.number ≡ None
  pub not_above : Contains (numbers_from h session e.child.number) e.parent.number → ⊥
  pub parent_alone : above (entries_present h session) e.parent.number ≡ None
  pub parent_unchecked : checks_of h session e.parent.number ≡ []
  pub check : Check
  pub kept : Contains (checks_of h session e.child.number) check
  pub level : Level
  pub shape : (table_in (catalogue_events h) e.parent.number).shape ≡ Levels level
  pub columns : level.columns ≡ check.kept.level.columns
  pub inside : within check.kept.bound e.bound ≡ true
  pub looking : (r : ℕ) (s : TakenSnapshot) → held_by (snapshot_events h) r ≡ Some s → open_of (tx_events h) r ≡ Some s.tx

-- a CHECK is kept that repeats a partition's bound, before the entry ends; none of the table says the same
pub record IsNewCheck (h : History) (session : ℕ) (c : Check) (e : Entry) : Type 0 where
  pub own : open_of (tx_events h) session ≡ Some c.by.number
  pub command : IsInOrder (Some (c.by.number, c.cmd)) h
  pub sound : IsCatalogueSound (CheckKept c) h
  pub present : Contains (entries_present h session) e
  pub repeats : Repeats (catalogue_events h) c e
  pub guarded : IsGuarded h session e.parent.number
  pub owned : IsOwned h session c.table.number
  pub another : (d : Check) → Contains (checks_of h session c.table.number) d → d.kept ≢ c.kept

-- a partition that is not pending is marked so; none beside it is pending or the default, and the session may change the
-- partitions of the parent
pub record IsNewMark (h : History) (session : ℕ) (e : Entry) (s : Stamp) : Type 0 where
  pub own : open_of (tx_events h) session ≡ Some s.by.number
  pub command : IsInOrder (Some (s.by.number, s.cmd)) h
  pub present : Contains (entries_present h session) e
  pub guarded : IsGuarded h session e.parent.number
  pub none_pending : (g : Entry) → Contains (entries_present h session) g → g.parent.number ≡ e.parent.number → is_pending h session g ≡ false
  pub no_default : (g : Entry) → Contains (entries_present h session) g → g.parent.number ≡ e.parent.number → is_default g.bound ≡ false
