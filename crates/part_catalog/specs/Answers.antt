-- What the catalogue answers.
use Rattle.std.specs.Prelude.{◌≡◌, ℕ, ◌==◌, ◌&&◌, Bool, Option, Some, None, find, option_map}
use Rattle.pg_values.specs.declared.ids.TableNo.{TableNo}
use Rattle.history.specs.declared.transaction.TxId.{TxId}
use Rattle.history.specs.declared.catalogue.Entry.{Entry}
use Rattle.history.specs.Catalogue.{entries_added, entry_ends, marks, counted_of}
use Rattle.history.specs.History.{History, tx_events, catalogue_events}
use Rattle.history.specs.Presence.{is_present, is_pending, entries_present}
use Rattle.tx_table.specs.Kept.{KeptTable}
use Rattle.tx_table.specs.Stands.{TableStands}
use Rattle.row_router.specs.declared.path_part.PathPart.{PathPart}
use Rattle.row_router.specs.Siblings.{AreSiblings}
use Rattle.part_catalog.specs.Kept.{KeptCatalogue}
use Rattle.part_catalog.specs.Stands.{CatalogueStands}

-- the two stand for a history in which the entries that are present for the session are siblings
pub record AreTogether (table : KeptTable) (kept : KeptCatalogue) (session : ℕ) : Type 0 where
  pub h : History
  pub txs : TableStands table h
  pub catalogue : CatalogueStands kept h
  pub siblings : AreSiblings (entries_present h session)

abbrev pub parent_told : Option Entry → Option TableNo
parent_told None = None
parent_told (Some e) = Some e.parent

abbrev pub number_told : Option TableNo → Option ℕ
number_told None = None
number_told (Some t) = Some t.number

abbrev pub child_told : Option Entry → Option TableNo
child_told None = None
child_told (Some e) = Some e.child

-- a table of a path with its CHECKs alone
abbrev pub without_place : PathPart → PathPart
without_place part = record { table = part.table; checks = part.checks; place = None }

-- the entry below a table that is pending for the session
abbrev pub is_pending_below : History → (session table : ℕ) → Entry → Bool
is_pending_below h session t e = (e.parent.number == t) && is_pending h session e

abbrev pub pending_entry : History → (session table : ℕ) → Option Entry
pending_entry h session t = find (is_pending_below h session t) (entries_added (catalogue_events h))

-- the transaction that made the mark of an entry
abbrev pub marker_of : History → Entry → Option TxId
marker_of h e = option_map (λ s. s.by) (counted_of (tx_events h) (marks (catalogue_events h)) e.id.number)

abbrev pub marker_told : History → Option Entry → Option TxId
marker_told h None = None
marker_told h (Some e) = marker_of h e

-- the present entry by which the one table is a partition of the other
abbrev pub is_between : History → (session parent child : ℕ) → Entry → Bool
is_between h session parent child e = ((e.parent.number == parent) && (e.child.number == child)) && is_present h session e

abbrev pub entry_between : History → (session parent child : ℕ) → Option Entry
entry_between h session parent child = find (is_between h session parent child) (entries_added (catalogue_events h))

-- there is such an entry, and no end of it counts; for a mark, no mark either
abbrev pub IsStanding : History → (session parent child : ℕ) → Type 0
IsStanding h session parent child = (e : Entry) × (entry_between h session parent child ≡ Some e) × (counted_of (tx_events h) (entry_ends (catalogue_events h)) e.id.number ≡ None)

abbrev pub IsUnmarked : History → (session parent child : ℕ) → Type 0
IsUnmarked h session parent child = (e : Entry) × (entry_between h session parent child ≡ Some e) × (counted_of (tx_events h) (marks (catalogue_events h)) e.id.number ≡ None)
