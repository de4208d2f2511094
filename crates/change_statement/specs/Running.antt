-- A statement in the middle of its run: what a part of it makes of a history (the manual, 13.2).
use Rattle.std.specs.Prelude.{◌≡◌, ℕ, ◌+◌, ◌<◌, ◌==◌, true, false, List, [], ◌∷◌, ◌++◌, Option, Some, None, Result, Ok, Err, All, length, slice_index_or}
use Rattle.std.specs.List.{Contains, list_any}
use Rattle.pg_values.specs.declared.value.Value.{Value}
use Rattle.pg_values.specs.declared.value.Value.TheVariants.{Null}
use Rattle.pg_values.specs.declared.ids.LeafId.{LeafId}
use Rattle.pg_values.specs.declared.ids.RowId.{RowId}
use Rattle.history.specs.Transactions.{open_of}
use Rattle.history.specs.History.{History, tx_events, catalogue_events, stands}
use Rattle.history.specs.Legal.{IsInOrder}
use Rattle.row_router.specs.Trees.{leaves}
use Rattle.tx_table.specs.Stands.{TableStands, sees_now_by}
use Rattle.row_store.specs.Kept.{KeptRows, stored_at}
use Rattle.row_store.specs.Stands.{StoreStands}
use Rattle.soundness.specs.Worlds.{HasLeaf}
use Rattle.part_catalog.specs.Stands.{CatalogueStands}
use Rattle.row_change.specs.Placing.{CanBePlaced, IsNumbered, IsPartNumbered, tables_of}
use Rattle.row_change.specs.Targets.{HasWay}
use Rattle.statement_steps.specs.declared.rest.Rest.{Rest}
use Rattle.statement_steps.specs.declared.rest.TargetRow.{TargetRow}
use Rattle.statement_steps.specs.Gathered.{AreLeft, Found, IsStill, RowsLeft, sets_key}
use Rattle.legal_statements.specs.Locked.{IsWritable}
use Rattle.stores.specs.Numbers.{IsAt}
use Rattle.stores.specs.Stand.{Stands}
use Rattle.stores.specs.declared.stores.Stores.{Stores}
use Rattle.statement_steps.specs.Made.{Made, Waits, Refused, number_after}
use Rattle.statement_steps.specs.Attempts.{CanGoOn, GoesOn, IsLeft, MayAttempt, WentOn}
use Rattle.statement_steps.specs.declared.caller.Caller.{Caller}
use Rattle.statement_steps.specs.declared.stop.Stop.{Stop}
use Rattle.statement_steps.specs.declared.stop.Stop.TheVariants as stop
use Rattle.statement_steps.specs.Known.{IsKnownTo}
use Rattle.statement_steps.specs.Steps.{IsPaused}
use Rattle.statement_steps.specs.Rights.{IsReadOf}
use Rattle.change_statement.specs.Standing.{following}
use Rattle.change_statement.specs.Updated.{against, housed}
use Rattle.cond_logic.specs.Asked.{SettingMeant}

-- ---- its command

-- what the transaction did, it did by the statement's command at the latest, and what the statement has gathered holds still
pub record IsInRun (g : Found) (h : History) (caller : Caller) : Type 0 where
  pub at : IsAt h caller.session (caller.cmd + 1)
  pub order : (t : ℕ) → open_of (tx_events h) caller.session ≡ Some t → IsInOrder (Some (t, caller.cmd)) h
  pub still : IsStill h caller.session g

-- want of memory apart, what came of it is what is told; the run goes on, or ends, or goes on later under the next command
abbrev pub IsRunTold : {X T : Type 0} → Found → (X → T) → Result X Stop → Stores → Caller → History → Made T → Type 0
IsRunTold g view (Ok x) new caller h m = (m.told ≡ Ok (view x)) × WentOn h caller.session (caller.cmd + 1) [] new (m.events ++ h) × IsInRun g (m.events ++ h) caller
IsRunTold g view (Err (stop.Waits None)) new caller h m = ⊥
IsRunTold g view (Err (stop.Waits (Some rest))) new caller h m = (m.told ≡ Err (Waits (Some rest))) × WentOn h caller.session (caller.cmd + 1) (caller.session ∷ []) new (m.events ++ h) × IsLeft (m.events ++ h) caller.session rest
IsRunTold g view (Err (stop.Refused f)) new caller h m = (m.told ≡ Err (Refused f)) × WentOn h caller.session (caller.cmd + 1) [] new (m.events ++ h)
IsRunTold g view (Err stop.NoMemory) new caller h m = Unit {0}

-- a part is what the function says of each history that the stores stand for
pub record IsRun {X T : Type 0} (g : Found) (view : X → T) (result : Result X Stop) (old new : Stores) (caller : Caller) (f : History → Made T) : Type 0 where
  pub is : (h : History) → Stands old h → IsInRun g h caller → IsRunTold g view result new caller h (f h)
  pub keeps : GoesOn old new caller.session
  pub waits : IsPaused result new caller.session

-- the statement may go on with its run, and under another command where it waits
pub record MayRun (g : Found) (stores : Stores) (caller : Caller) : Type 0 where
  pub may : MayAttempt stores (following caller)
  pub next : caller.cmd < 4294967294
  pub sound : (h : History) × Stands stores h × IsInRun g h caller

-- ---- a statement as a whole

-- one that waits in the middle of its run goes on under the next command
abbrev pub IsCommandTold : {X T : Type 0} → (X → T) → Result X Stop → Stores → Caller → History → Made T → Type 0
IsCommandTold view (Ok x) new caller h m = (m.told ≡ Ok (view x)) × WentOn h caller.session (caller.cmd + 1) [] new (m.events ++ h)
IsCommandTold view (Err (stop.Waits rest)) new caller h m = (m.told ≡ Err (Waits rest)) × WentOn h caller.session (number_after rest caller.cmd) (caller.session ∷ []) new (m.events ++ h) × CanGoOn (m.events ++ h) caller.session rest
IsCommandTold view (Err (stop.Refused f)) new caller h m = (m.told ≡ Err (Refused f)) × WentOn h caller.session (caller.cmd + 1) [] new (m.events ++ h)
IsCommandTold view (Err stop.NoMemory) new caller h m = Unit {0}

-- from its beginning, or from where it stood, if that is told
pub record IsCommand {X T : Type 0} (rest : Option Rest) (view : X → T) (result : Result X Stop) (old new : Stores) (caller : Caller) (f : History → Made T) : Type 0 where
  pub is : (h : History) → Stands old h → IsAt h caller.session caller.cmd → CanGoOn h caller.session rest → IsCommandTold view result new caller h (f h)
  pub keeps : GoesOn old new caller.session
  pub waits : IsPaused result new caller.session

-- a statement goes on with rows of its session's transaction
pub record IsOwnRun (stores : Stores) (caller : Caller) (r : RowsLeft) : Type 0 where
  pub own : (h : History) → Stands stores h → open_of (tx_events h) caller.session ≡ Some r.by.number
  pub sound : (h : History) × Stands stores h × IsAt h caller.session caller.cmd × AreLeft h caller.session r

-- ---- what it has gathered

-- the session may write the table that has the leaf
abbrev pub MayWriteIn : Stores → (session : ℕ) → LeafId → Type 0
MayWriteIn stores s leaf = (h : History) → Stands stores h → (x : ℕ) → HasLeaf (catalogue_events h) x leaf → IsWritable h s x

-- the tree and the path are those that the command reads; the leaves that are read are some of the tree's, and the session
-- may write their tables, and those of all leaves of the tree where rows may move; where they may not, no key column is set
pub record IsGathered (stores : Stores) (caller : Caller) (g : Found) : Type 0 where
  pub known : IsKnownTo stores caller.session g.table.number
  pub read : IsReadOf stores.txs stores.catalog caller g.table g.tree g.path
  pub among : All (Contains (leaves g.tree)) g.leaves
  pub writes : All (MayWriteIn stores caller.session) g.leaves
  pub moves : g.moves ≡ true → All (MayWriteIn stores caller.session) (leaves g.tree)
  pub stays : g.moves ≡ false → (leaf : LeafId) → Contains g.leaves leaf → sets_key g.asked.settings g.tree ≡ false

-- ---- its rows

-- the version is there, and has the leaf, which is one of those that are read
pub record IsTargetIn (rows : KeptRows) (g : Found) (t : TargetRow) : Type 0 where
  pub there : t.id.number < length rows.stored
  pub leaf : (stored_at rows.stored t.id).version.leaf ≡ t.leaf
  pub among : Contains g.leaves t.leaf

-- the version is there and stands, the transaction sees its birth, and its leaf is one of those that are read
pub record MayEndIn (g : Found) (stores : Stores) (caller : Caller) (id : RowId) : Type 0 where
  pub known : id.number < length stores.rows.stored
  pub standing : (h : History) → TableStands stores.txs h → StoreStands stores.rows h → stands h id.number ≡ true
  pub born : (tx : ℕ) → slice_index_or stores.txs.current caller.session None ≡ Some tx → sees_now_by stores.txs tx (stored_at stores.rows.stored id).version.by.number ≡ true
  pub among : Contains g.leaves (stored_at stores.rows.stored id).version.leaf

-- ---- a new row

-- of two rows the second has the first one's values where no setting names the column
abbrev pub Agree : List SettingMeant → (was now : List Value) → Type 0
Agree settings was now = (i : ℕ) → list_any (λ s. s.column == i) settings ≡ false → slice_index_or now i Null ≡ slice_index_or was i Null

-- the row goes to the leaf, which is one of the tree's
pub record IsPlacedIn (stores : Stores) (g : Found) (old leaf : LeafId) (row : List Value) : Type 0 where
  pub placed : (h : History) → CatalogueStands stores.catalog h → housed g.moves (tables_of h) g.tree g.path old row ≡ Ok leaf
  pub way : HasWay g.tree leaf

-- what may be asked of it, where so many tables were made
pub record Takes (n : ℕ) (g : Found) (row : List Value) : Type 0 where
  pub fits : CanBePlaced g.tree g.path row
  pub above : All (IsPartNumbered n) g.path
  pub known : IsNumbered n g.tree

-- nothing stands against the row there
abbrev pub IsTakenIn : Stores → Caller → Found → LeafId → (row : List Value) → Type 0
IsTakenIn stores c g leaf row = (h : History) → Stands stores h → IsInRun g h c → against h c.session g leaf row ≡ []
