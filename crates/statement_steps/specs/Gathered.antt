-- What an UPDATE or a DELETE has before it looks at rows, and where it stands when it waits for one (the manual, UPDATE;
-- DELETE; 13.2.1 Read Committed Isolation Level).
use Rattle.std.specs.Prelude.{◌≡◌, ℕ, ◌+◌, ◌<◌, ◌==◌, ◌||◌, Bool, true, false, List, Some, All, slice_get}
use Rattle.std.specs.List.{Contains, list_any}
use Rattle.pg_values.specs.declared.ids.LeafId.{LeafId}
use Rattle.pg_values.specs.declared.ids.TableNo.{TableNo}
use Rattle.bound_forms.specs.declared.level.KeyColumn.{KeyColumn}
use Rattle.history.specs.declared.transaction.TxId.{TxId}
use Rattle.history.specs.declared.version.Version.{Version}
use Rattle.history.specs.Transactions.{next_tx, open_of}
use Rattle.history.specs.Snapshots.{TakenSnapshot}
use Rattle.history.specs.History.{History, tx_events, catalogue_events, versions}
use Rattle.row_router.specs.declared.path_part.PathPart.{PathPart}
use Rattle.row_router.specs.Histories.{tree_of, path_of}
use Rattle.row_router.specs.Trees.{TableTree, LeafTable, LevelTable, Trees, End, More, leaves}
use Rattle.row_router.specs.Seen.{seen}
use Rattle.cond_logic.specs.Asked.{ChangeMeant, SettingMeant, change_meant}
use Rattle.soundness.specs.Worlds.{IsMade, HasLeaf}
use Rattle.legal_statements.specs.Locked.{IsWritable}
use Rattle.legal_statements.specs.Rows.{IsOwnLook}
use Rattle.statement_steps.specs.Waiting.{Since}
use Rattle.statement_steps.specs.declared.gathered.Gathered.{Gathered}
use Rattle.statement_steps.specs.declared.rest.TargetRow.{TargetRow}

-- ---- what is gathered

-- the named table, its tree and the path above it, what is asked, the leaves that are read, and whether rows may move from
-- these to others
pub record Found : Type 0 where
  pub table : TableNo
  pub tree : TableTree
  pub path : List PathPart
  pub asked : ChangeMeant
  pub leaves : List LeafId
  pub moves : Bool

abbrev pub found_of : Gathered → Found
found_of g = record { table = g.table; tree = seen g.tree; path = g.path; asked = change_meant g.ask; leaves = g.leaves; moves = g.moves }

-- SET names a key column
abbrev pub is_set : List SettingMeant → KeyColumn → Bool
is_set settings c = list_any (λ s. s.column == c.position) settings

-- of the tree's table or of one below it
abbrev mutual
  pub sets_key : List SettingMeant → TableTree → Bool
  sets_key settings (LeafTable node leaf) = false
  sets_key settings (LevelTable node level bounds kids) = list_any (is_set settings) level.columns || sets_key_of settings kids

  pub sets_key_of : List SettingMeant → Trees → Bool
  sets_key_of settings End = false
  sets_key_of settings (More k ks) = sets_key settings k || sets_key_of settings ks

-- the session may write the table that has the leaf
abbrev pub MayWriteAt : History → (session : ℕ) → LeafId → Type 0
MayWriteAt h s leaf = (x : ℕ) → HasLeaf (catalogue_events h) x leaf → IsWritable h s x

-- the tree and the path are those that the session has there; the leaves that are read are some of the tree's, and the session
-- may write their tables, and those of all leaves of the tree where rows may move; where they may not, no key column is set
pub record IsGatheredIn (h : History) (session : ℕ) (g : Found) : Type 0 where
  pub made : IsMade (catalogue_events h) g.table.number
  pub look : TakenSnapshot
  pub own : IsOwnLook h session look
  pub tree : g.tree ≡ tree_of h session g.table.number look
  pub path : g.path ≡ path_of h session g.table.number
  pub among : All (Contains (leaves g.tree)) g.leaves
  pub writes : All (MayWriteAt h session) g.leaves
  pub moves : g.moves ≡ true → All (MayWriteAt h session) (leaves g.tree)
  pub stays : g.moves ≡ false → (leaf : LeafId) → Contains g.leaves leaf → sets_key g.asked.settings g.tree ≡ false

-- it was gathered at an earlier history, and what came since was done by others
pub record IsStill (h : History) (session : ℕ) (g : Found) : Type 0 where
  pub earlier : History
  pub gathered : IsGatheredIn earlier session g
  pub since : Since session earlier h

-- ---- where a statement stands

-- the transaction that changes the rows, what was gathered, the rows that are still to be looked at, and how many are changed
pub record RowsLeft : Type 0 where
  pub by : TxId
  pub found : Found
  pub left : List TargetRow
  pub changed : ℕ

-- a number of 64 bits tells how many rows are changed, whatever becomes of those that are left
abbrev pub CanBeCounted : (changed left : ℕ) → Type 0
CanBeCounted changed left = changed + left < 18446744073709551616

-- the version is there, and has the leaf, which is one of those that are read
pub record IsTargetAt (h : History) (g : Found) (t : TargetRow) : Type 0 where
  pub version : Version
  pub there : slice_get (versions h) t.id.number ≡ Some version
  pub leaf : version.leaf ≡ t.leaf
  pub among : Contains g.leaves t.leaf

-- as long as its transaction is open, what was gathered holds still
pub record AreLeft (h : History) (session : ℕ) (r : RowsLeft) : Type 0 where
  pub begun : r.by.number < next_tx (tx_events h)
  pub still : open_of (tx_events h) session ≡ Some r.by.number → IsStill h session r.found
  pub rows : All (IsTargetAt h r.found) r.left
