-- Which row versions a statement of a session may make and end (the manual, INSERT, UPDATE, DELETE and 13.2).
use Rattle.std.specs.Prelude.{◌≡◌, ℕ, ◌+◌, ◌<◌, List, [], ◌∷◌, ◌++◌, Some, None, Ok, length, slice_index_or}
use Rattle.std.specs.List.{Contains}
use Rattle.history.specs.declared.version.Version.{Version}
use Rattle.history.specs.declared.version.End.{End}
use Rattle.history.specs.Transactions.{IsPast, open_of}
use Rattle.history.specs.Snapshots.{TakenSnapshot}
use Rattle.history.specs.Rows.{RowBorn, leaf_count}
use Rattle.history.specs.RowsSound.{IsEndSound}
use Rattle.history.specs.History.{Event, History, RowChange, tx_events, row_events, catalogue_events, next_version}
use Rattle.history.specs.Legal.{IsInOrder}
use Rattle.row_router.specs.Histories.{tree_of, path_of}
use Rattle.row_router.specs.Trees.{routed}
use Rattle.row_router.specs.declared.path.PathTest.TheVariants.{Bounds, Checks}
use Rattle.row_router.specs.Paths.{refused}
use Rattle.soundness.specs.Worlds.{IsMade, HasLeaf}
use Rattle.soundness.specs.Columns.{IsOfTable}
use Rattle.legal_statements.specs.Locked.{IsWritable}

-- a snapshot of the session's open transaction that was taken at some place of the history: what a statement reads under,
-- however long it waits and whatever it has changed since
pub record IsOwnLook (h : History) (session : ℕ) (s : TakenSnapshot) : Type 0 where
  pub own : open_of (tx_events h) session ≡ Some s.tx
  pub past : IsPast s.past (tx_events h)

-- a row of the named table's columns that no place above the table refuses goes to the leaf to which the table's tree routes
-- it, which the session may write; no kept CHECK on the leaf's path refuses it
pub record IsStored (h : History) (session table : ℕ) (s : TakenSnapshot) (v : Version) : Type 0 where
  pub columns : IsOfTable (catalogue_events h) table v.row
  pub placed : refused Bounds v.row (path_of h session table) ≡ None
  pub routed : routed v.row (tree_of h session table s) ≡ Ok v.leaf
  pub passes : (x : ℕ) → HasLeaf (catalogue_events h) x v.leaf → refused Checks v.row (path_of h session x) ≡ None
  pub locked : (x : ℕ) → HasLeaf (catalogue_events h) x v.leaf → IsWritable h session x
  pub leaf : v.leaf.number < leaf_count (row_events h)

-- the session's transaction stores one
pub record IsNewRow (h : History) (session table : ℕ) (s : TakenSnapshot) (v : Version) : Type 0 where
  pub look : IsOwnLook h session s
  pub own : open_of (tx_events h) session ≡ Some v.by.number
  pub command : IsInOrder (Some (v.by.number, v.cmd)) h
  pub made : IsMade (catalogue_events h) table
  pub stored : IsStored h session table s v
  pub number : v.id.number ≡ next_version h

-- or many, by one command, with the next numbers
pub record AreNewRows (h : History) (session table : ℕ) (s : TakenSnapshot) (tx cmd : ℕ) (vs : List Version) : Type 0 where
  pub look : IsOwnLook h session s
  pub own : open_of (tx_events h) session ≡ Some tx
  pub command : IsInOrder (Some (tx, cmd)) h
  pub made : IsMade (catalogue_events h) table
  pub by : (v : Version) → Contains vs v → (v.by.number ≡ tx) × (v.cmd ≡ cmd)
  pub stored : (v : Version) → Contains vs v → IsStored h session table s v
  pub numbered : (k : ℕ) (d : Version) → k < length vs → (slice_index_or vs k d).id.number ≡ next_version h + k

-- one after the other
abbrev pub rows_born : List Version → List Event
rows_born [] = []
rows_born (v ∷ vs) = rows_born vs ++ RowChange (RowBorn v) ∷ []

-- a version in a leaf that the session may write ends, as the history asks
pub record IsOldRow (h : History) (session k : ℕ) (e : End) : Type 0 where
  pub own : open_of (tx_events h) session ≡ Some e.by.number
  pub command : IsInOrder (Some (e.by.number, e.cmd)) h
  pub sound : IsEndSound k e h
  pub locked : (x : ℕ) → HasLeaf (catalogue_events h) x sound.version.leaf → IsWritable h session x
