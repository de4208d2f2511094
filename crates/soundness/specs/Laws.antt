-- What holds of every legal history.
use Rattle.std.specs.Prelude.{◌≡◌, ◌≢◌, ◌<◌, ◌≤◌, ℕ, true, false, List, [], ◌∷◌, ◌⊎◌, Some, None, Ok, All, Contains, length}
use Rattle.pg_values.specs.declared.value.Value.{Value}
use Rattle.pg_values.specs.declared.ids.LeafId.{LeafId}
use Rattle.history.specs.declared.transaction.Fate.TheVariants.{Running}
use Rattle.history.specs.declared.version.Version.{Version}
use Rattle.history.specs.declared.catalogue.Entry.{Entry}
use Rattle.history.specs.Transactions.{TxEvents, open_of, session_of, fate, IsRunning}
use Rattle.history.specs.Snapshots.{TakenSnapshot, SnapshotHeld, held_by}
use Rattle.history.specs.Catalogue.{EntryAdded, CheckKept}
use Rattle.history.specs.History.{Event, History, CatalogueChange, tx_events, snapshot_events, row_events, catalogue_events, versions, fresh, seen}
use Rattle.history.specs.Places.{HasColumnsOf}
use Rattle.history.specs.Presence.{counts, entries_present}
use Rattle.history.specs.Legal.{MayHold, IsLegal}
use Rattle.row_router.specs.Histories.{tree_of, ddl_tree, path_of, children}
use Rattle.row_router.specs.declared.path.PathTest.TheVariants.{Bounds, Checks}
use Rattle.row_router.specs.Paths.{refused}
use Rattle.row_router.specs.Laws.{sees_mark}
use Rattle.row_router.specs.Siblings.{AreSiblings}
use Rattle.row_router.specs.Trees.{leaves, height, accepting, routed}
use Rattle.soundness.specs.Versions.{IsVersion}
use Rattle.soundness.specs.Worlds.{same_tx, view, table_in, IsMade, AcceptAbove, HasLeaf, Under}
use Rattle.soundness.specs.Kept.{PassAbove, ChecksOf}
use Rattle.soundness.specs.Columns.{IsOfTable, ColumnsOf, IsLeafBelow}
use Rattle.soundness.specs.Legal.{Below, Has, HasPending, Judges, MayAdd, MaySkip, MayCreate, ArePermitted}
use Rattle.soundness.specs.Parts.{AreChildren, WritesIn, InvariantOf}

-- whatever comes, so long as each event is permitted, the invariant holds
abbrev pub LegalKeepsAll : Type 0
LegalKeepsAll = (h : History) → IsLegal h → ArePermitted h → InvariantOf h

-- and its parts on kept CHECKs
abbrev pub LegalKeepsChecks : Type 0
LegalKeepsChecks = (h : History) → IsLegal h → ArePermitted h → ChecksOf h

-- and each stored row is one of its leaf's columns
abbrev pub LegalKeepsColumns : Type 0
LegalKeepsColumns = (h : History) → IsLegal h → ArePermitted h → ColumnsOf h

-- a leaf of a table's tree is that of a table which has the other's columns, by name, kind and order
abbrev pub LeavesHaveColumns : Type 0
LeavesHaveColumns = (h : History) (session table : ℕ) (s : TakenSnapshot) (leaf : LeafId) → IsLegal h → ArePermitted h → IsMade (catalogue_events h) table → IsLeafBelow h session table s leaf
    → (x : ℕ) × HasLeaf (catalogue_events h) x leaf × HasColumnsOf (table_in (catalogue_events h) table).columns (table_in (catalogue_events h) x).columns

-- so each row that is stored there is one of the columns of the tree's table
abbrev pub RowsAreOfTrees : Type 0
RowsAreOfTrees = (h : History) (session table : ℕ) (s : TakenSnapshot) (v : Version) → IsLegal h → ArePermitted h → IsMade (catalogue_events h) table → IsLeafBelow h session table s v.leaf → IsVersion (row_events h) v
    → IsOfTable (catalogue_events h) table v.row

-- and a row of the columns of the tree's table, wherever the tree routes it, is one of the leaf's
abbrev pub RoutedAreOfColumns : Type 0
RoutedAreOfColumns = (h : History) (session table x : ℕ) (s : TakenSnapshot) (leaf : LeafId) (row : List Value) → IsLegal h → ArePermitted h → IsMade (catalogue_events h) table
    → routed row (tree_of h session table s) ≡ Ok leaf → IsOfTable (catalogue_events h) table row → HasLeaf (catalogue_events h) x leaf → IsOfTable (catalogue_events h) x row

-- a snapshot that the session has open, of a transaction that counts for it; or one that it could hold now, or take
abbrev pub IsLooking : History → (session : ℕ) → TakenSnapshot → Type 0
IsLooking h session s = ((held_by (snapshot_events h) session ≡ Some s) × (counts (tx_events h) session s.tx ≡ true)) ⊎ (MayHold (SnapshotHeld session s) h ⊎ (s ≡ fresh (tx_events h) session))

-- each row that such a snapshot is shown in a leaf of a tree is accepted along the way to that leaf, and by no other leaf
abbrev pub EachRowInOneLeaf : History → Type 0
EachRowInOneLeaf h = (session table : ℕ) (s : TakenSnapshot) (leaf : LeafId) → IsLooking h session s → IsMade (catalogue_events h) table → Contains (leaves (tree_of h session table s)) leaf
    → All (λ v. accepting v.row (tree_of h session table s) ≡ leaf ∷ []) (seen h leaf.number s)

abbrev pub OneLeafAccepts : Type 0
OneLeafAccepts = (h : History) → IsLegal h → ArePermitted h → EachRowInOneLeaf h

-- the entries that are present for a session can stand together, as is asked where a tree is made
abbrev pub SessionsHaveSiblings : Type 0
SessionsHaveSiblings = (h : History) (session : ℕ) → IsLegal h → ArePermitted h → AreSiblings (entries_present h session)

-- a table that was just made may be added wherever a table with rows might
abbrev pub CreateIsAdd : Type 0
CreateIsAdd = (h : History) (e : Entry) → MayCreate h e → MayAdd h e

-- where no place on a table's path refuses the row, each entry above the table accepts it
abbrev pub PathAccepts : Type 0
PathAccepts = (h : History) (session t x : ℕ) (row : List Value) → IsLegal h → ArePermitted h → open_of (tx_events h) session ≡ Some t → refused Bounds row (path_of h session x) ≡ None
    → AcceptAbove (catalogue_events h) (view (tx_events h) t) x row

-- and so it is for each entry above the leaf to which a tree routes the row, where no place on the path of the tree's table
-- refuses it
abbrev pub RoutedAccepts : Type 0
RoutedAccepts = (h : History) (session t table x : ℕ) (s : TakenSnapshot) (leaf : LeafId) (row : List Value) → IsLegal h → ArePermitted h → IsLooking h session s → open_of (tx_events h) session ≡ Some t
    → IsMade (catalogue_events h) table → refused Bounds row (path_of h session table) ≡ None → routed row (tree_of h session table s) ≡ Ok leaf → HasLeaf (catalogue_events h) x leaf
    → AcceptAbove (catalogue_events h) (view (tx_events h) t) x row

-- each leaf below a table, by the entries that the session has, is one of the table's tree with all pending partitions
abbrev pub TreeHasAllBelow : Type 0
TreeHasAllBelow = (h : History) (session t top n x : ℕ) (leaf : LeafId) → IsLegal h → ArePermitted h → open_of (tx_events h) session ≡ Some t
    → Below h t n top x → HasLeaf (catalogue_events h) x leaf → Contains (leaves (ddl_tree h session top)) leaf

-- a way has fewer steps than the path of its lower end has tables, and than the tree of its upper end is high
abbrev pub WaysAreShort : Type 0
WaysAreShort = (h : History) (session t n top x : ℕ) → IsLegal h → ArePermitted h → open_of (tx_events h) session ≡ Some t
    → Below h t n top x → (n < length (path_of h session x)) × (n < height (ddl_tree h session top))

-- a table has no more children than stand in the list of those that are present for the session
abbrev pub ChildrenAreCounted : Type 0
ChildrenAreCounted = (h : History) (session t x : ℕ) (es : List Entry) → IsLegal h → open_of (tx_events h) session ≡ Some t
    → AreChildren (catalogue_events h) (view (tx_events h) t) x es → length es ≤ length (children (entries_present h session) x)

-- the event is no entry that the transaction itself adds, and no CHECK that it keeps
abbrev pub IsForeign : TxEvents → ℕ → Event → Type 0
IsForeign txs t (CatalogueChange (EntryAdded e)) = same_tx txs t e.by.number ≡ false
IsForeign txs t (CatalogueChange (CheckKept c)) = same_tx txs t c.by.number ≡ false
IsForeign txs t _ = Unit {0}

-- a leaf that a waiting transaction may write accepts, after whatever others do, what it accepted before
abbrev pub WaitingAccept : Type 0
WaitingAccept = (e : Event) (h : History) (t x : ℕ) (row : List Value) → IsLegal (e ∷ h) → ArePermitted (e ∷ h) → IsRunning (tx_events h) t → fate (tx_events (e ∷ h)) t ≡ Running → IsForeign (tx_events h) t e
    → WritesIn h (view (tx_events h) t) t x → AcceptAbove (catalogue_events h) (view (tx_events h) t) x row → AcceptAbove (catalogue_events (e ∷ h)) (view (tx_events (e ∷ h)) t) x row

-- where the scan may be left out, it would find nothing: it is an ATTACH with a scan
abbrev pub AttachMaySkip : Type 0
AttachMaySkip = (h : History) (e : Entry) → IsLegal h → ArePermitted h → MaySkip h e → MayAdd h e

-- each row that a snapshot is shown in the leaf of a table is refused by no CHECK of the table's path: for every session, and
-- each snapshot that it has open or could take
abbrev pub EachRowPasses : History → Type 0
EachRowPasses h = (session x : ℕ) (s : TakenSnapshot) (leaf : LeafId) → IsLooking h session s → HasLeaf (catalogue_events h) x leaf → All (λ v. refused Checks v.row (path_of h session x) ≡ None) (seen h leaf.number s)

abbrev pub RowsPass : Type 0
RowsPass = (h : History) → IsLegal h → ArePermitted h → EachRowPasses h

-- where no CHECK of a table's path refuses the row, it passes each one above the table
abbrev pub PathPasses : Type 0
PathPasses = (h : History) (session t x : ℕ) (row : List Value) → IsLegal h → ArePermitted h → open_of (tx_events h) session ≡ Some t → refused Checks row (path_of h session x) ≡ None
    → PassAbove (catalogue_events h) (view (tx_events h) t) x row

-- a row that a waiting transaction may write passes, after whatever others do, the CHECKs of its leaf, where it passed them
-- before and its path accepted it
abbrev pub WaitingPass : Type 0
WaitingPass = (e : Event) (h : History) (t x : ℕ) (row : List Value) → IsLegal (e ∷ h) → ArePermitted (e ∷ h) → IsRunning (tx_events h) t → fate (tx_events (e ∷ h)) t ≡ Running → IsForeign (tx_events h) t e
    → WritesIn h (view (tx_events h) t) t x → AcceptAbove (catalogue_events h) (view (tx_events h) t) x row → PassAbove (catalogue_events h) (view (tx_events h) t) x row
    → PassAbove (catalogue_events (e ∷ h)) (view (tx_events (e ∷ h)) t) x row

-- all that is asked above can be met: in some history a row is shown in the leaf of a table that stands two steps below another
-- one
abbrev pub ConditionsCanBeMet : Type 0
ConditionsCanBeMet = (h : History) × (session table x : ℕ) × (s : TakenSnapshot) × (leaf : LeafId) × IsLegal h × ArePermitted h × IsLooking h session s × IsMade (catalogue_events h) table
    × Contains (leaves (tree_of h session table s)) leaf × Under (catalogue_events h) (counts (tx_events h) session) 2 table x × HasLeaf (catalogue_events h) x leaf × (length (seen h leaf.number s) ≡ 1)

-- and in some other one a table that has a row is attached beside a pending partition, while another session has a snapshot from
-- before the mark
abbrev pub AttachCanBeMet : Type 0
AttachCanBeMet = (h : History) × (e g : Entry) × (reader : ℕ) × (old : TakenSnapshot) × (v : Version) × IsLegal (CatalogueChange (EntryAdded e) ∷ h) × ArePermitted (CatalogueChange (EntryAdded e) ∷ h)
    × (held_by (snapshot_events h) reader ≡ Some old) × (session_of (tx_events h) e.by.number ≢ reader) × Has h e.by.number g × HasPending h e.by.number g × (g.parent.number ≡ e.parent.number) × (sees_mark h old g ≡ false)
    × IsVersion (row_events h) v × HasLeaf (catalogue_events h) e.child.number v.leaf × Judges h e.by.number v

-- and a scan can be left out, of a table that has a row
abbrev pub SkipCanBeMet : Type 0
SkipCanBeMet = (h : History) × (e : Entry) × IsLegal h × ArePermitted h × MaySkip h e × (length (versions h) ≡ 1)
