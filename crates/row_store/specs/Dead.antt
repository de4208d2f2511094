-- Which versions are dead, told from what is kept.
use Rattle.std.specs.Prelude.{◌≡◌, ◌&&◌, not, Bool, true, false, List, Option, Some, None, slice_get, slice_index_or}
use Rattle.std.specs.List.{list_any}
use Rattle.pg_values.specs.declared.ids.RowId.{RowId}
use Rattle.history.specs.declared.transaction.Fate.{Fate}
use Rattle.history.specs.declared.transaction.Fate.TheVariants.{Running, Committed, Aborted}
use Rattle.history.specs.declared.version.End.{End}
use Rattle.history.specs.Transactions.{is_committed}
use Rattle.tx_table.specs.Kept.{KeptTable}
use Rattle.row_store.specs.declared.stored.Stored.{Stored}
use Rattle.row_store.specs.Judged.{shows_if_held}

-- some snapshot that is held shows the version
abbrev pub any_shown_by : KeptTable → Stored → Bool
any_shown_by table x = list_any (λ held. shows_if_held table held x) table.held

-- the version as if it had not ended
abbrev pub unended : Stored → Stored
unended x = record { version = x.version; ended = None }

-- the end is committed
abbrev pub over_by : KeptTable → Option End → Bool
over_by table None = false
over_by table (Some e) = is_committed (slice_index_or table.fates e.by.number Running)

-- the version is dead, where its transaction has that fate
abbrev pub dead_after : KeptTable → Stored → Fate → Bool
dead_after table x Running = false
dead_after table x Aborted = not (any_shown_by table (unended x))
dead_after table x Committed = over_by table x.ended && not (any_shown_by table x)

abbrev pub dead_by : KeptTable → Stored → Bool
dead_by table x = dead_after table x (slice_index_or table.fates x.version.by.number Running)

-- the number is that of a dead version
abbrev pub dead_if : KeptTable → Option Stored → Bool
dead_if table None = false
dead_if table (Some x) = dead_by table x

abbrev pub dead_at : KeptTable → List Stored → RowId → Bool
dead_at table stored id = dead_if table (slice_get stored id.number)

abbrev pub IsDeadAt : KeptTable → List Stored → RowId → Type 0
IsDeadAt table stored id = dead_at table stored id ≡ true

abbrev pub lives_at : KeptTable → List Stored → RowId → Bool
lives_at table stored id = not (dead_at table stored id)
