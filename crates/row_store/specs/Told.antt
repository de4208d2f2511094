-- What the answers of the store tell.
use Rattle.std.specs.Prelude.{◌≡◌, ℕ, ◌<◌, List, Option, Some, None, length, slice_index_or}
use Rattle.pg_values.specs.declared.value.Value.{Value}
use Rattle.pg_values.specs.declared.ids.LeafId.{LeafId}
use Rattle.pg_values.specs.declared.ids.RowId.{RowId}
use Rattle.history.specs.declared.transaction.Fate.TheVariants.{Running, Committed}
use Rattle.history.specs.declared.version.Ending.{Ending}
use Rattle.history.specs.declared.version.Ending.TheVariants.{Deleted, MovedTo, ReplacedBy}
use Rattle.history.specs.History.{Outcome, Standing, EndedByRunning, EndedFor}
use Rattle.row_store.specs.declared.newest.Newest.{Newest}
use Rattle.row_store.specs.declared.newest.Newest.TheVariants.{Stands, EndedBy, Gone, Moved, Replaced}
use Rattle.row_store.specs.declared.scan.SeenRow.{SeenRow}
use Rattle.tx_table.specs.Kept.{KeptTable}
use Rattle.row_store.specs.Kept.{KeptRows, stored_at}

abbrev pub outcome_told : Newest → Outcome
outcome_told (Stands row) = Standing
outcome_told (EndedBy tx) = EndedByRunning tx.number
outcome_told (Gone tx) = EndedFor tx.number Deleted
outcome_told (Moved tx leaf) = EndedFor tx.number (MovedTo leaf)
outcome_told (Replaced tx id) = EndedFor tx.number (ReplacedBy id)

-- the row that is lent where the version stands
abbrev pub row_told : Newest → Option (List Value)
row_told (Stands row) = Some row.now
row_told (EndedBy tx) = None
row_told (Gone tx) = None
row_told (Moved tx leaf) = None
row_told (Replaced tx id) = None

abbrev pub shown_row : SeenRow → RowId × List Value
shown_row r = (r.id, r.row.now)

-- how a version ends that moves to that leaf, or to none
abbrev pub ending_of : Option LeafId → Ending
ending_of None = Deleted
ending_of (Some leaf) = MovedTo leaf

-- what the answer names is there: the leaf; the version that replaces that one, which has a greater number,
-- is in the same leaf and was made by the transaction that is named, a committed one
abbrev pub IsToldKnown : KeptTable → KeptRows → RowId → Newest → Type 0
IsToldKnown table kept id (Stands row) = Unit {0}
IsToldKnown table kept id (EndedBy tx) = Unit {0}
IsToldKnown table kept id (Gone tx) = Unit {0}
IsToldKnown table kept id (Moved tx leaf) = leaf.number < kept.leaves
IsToldKnown table kept id (Replaced tx new) = (id.number < new.number) × (new.number < length kept.stored) × ((stored_at kept.stored new).version.leaf ≡ (stored_at kept.stored id).version.leaf) × ((stored_at kept.stored new).version.by ≡ tx) × (slice_index_or table.fates tx.number Running ≡ Committed)

-- the leaf that a version moves to, if it does, is there
abbrev pub IsLeafThere : ℕ → Option LeafId → Type 0
IsLeafThere leaves None = Unit {0}
IsLeafThere leaves (Some leaf) = leaf.number < leaves
