-- When a store stands for what happened, and what a scan of it shows.
use Rattle.std.specs.Prelude.{◌≡◌, ℕ, ◌+◌, ◌<◌, ◌==◌, ◌&&◌, not, Bool, true, false, List, Option, Some, None, map, filter, slice_index_or}
use Rattle.pg_values.specs.declared.value.Value.{Value}
use Rattle.pg_values.specs.declared.ids.LeafId.{LeafId}
use Rattle.pg_values.specs.declared.ids.RowId.{RowId}
use Rattle.history.specs.declared.transaction.TxId.{TxId}
use Rattle.history.specs.declared.transaction.Fate.{Fate}
use Rattle.history.specs.declared.transaction.Fate.TheVariants.{Running, Committed, Aborted}
use Rattle.history.specs.declared.version.Version.{Version}
use Rattle.history.specs.declared.version.End.{End}
use Rattle.history.specs.Rows.{last_end, leaf_count}
use Rattle.history.specs.History.{History, row_events, versions, next_version, Outcome, Standing, outcome_by}
use Rattle.history.specs.RowsSound.{AreRowsSound}
use Rattle.history.specs.Thinned.{Thins}
use Rattle.history.specs.Dead.{IsDead}
use Rattle.tx_table.specs.Kept.{KeptTable, KeptSnapshot}
use Rattle.tx_table.specs.Stands.{sees_by}
use Rattle.row_store.specs.declared.stored.Stored.{Stored}
use Rattle.row_store.specs.declared.TheConstants.{BYTES_LIMIT}
use Rattle.row_store.specs.Kept.{KeptRows, blank, version_of, stored_at, listed_in}
use Rattle.row_store.specs.Limits.{versions_bytes}

-- the versions of a leaf, in order of birth
abbrev pub born_in : History → ℕ → List Version
born_in h l = filter (λ v. v.leaf.number == l) (versions h)

-- the store stands for the history; each leaf lists its versions without some that are dead
pub record StoreStands (kept : KeptRows) (h : History) : Type 0 where
  pub sound : AreRowsSound h
  pub births : map version_of kept.stored ≡ versions h
  pub ends : (k : ℕ) → (slice_index_or kept.stored k blank).ended ≡ last_end (row_events h) k
  pub leaves : kept.leaves ≡ leaf_count (row_events h)
  pub room : kept.room + versions_bytes (versions h) ≡ BYTES_LIMIT
  pub lists : (l : ℕ) → l < kept.leaves → Thins (IsDead h) (born_in h l) (map version_of (listed_in kept.stored kept.listed l))

-- the version that a call makes after the history
abbrev pub newborn : History → LeafId → List Value → TxId → ℕ → Version
newborn h leaf row by cmd = record { id = record { number = next_version h }; leaf = leaf; row = row; by = by; cmd = cmd }

-- an end by a transaction of that fate counts
abbrev pub counts : Fate → Bool
counts Running = true
counts Committed = true
counts Aborted = false

-- what became of a version with that last end, and whether it stands, told from what is kept
abbrev pub outcome_kept : KeptTable → Option End → Outcome
outcome_kept table None = Standing
outcome_kept table (Some e) = outcome_by (slice_index_or table.fates e.by.number Running) e

abbrev pub stands_kept : KeptTable → Option End → Bool
stands_kept table None = true
stands_kept table (Some e) = not (counts (slice_index_or table.fates e.by.number Running))

-- whether a snapshot sees the end, told from what is kept
abbrev pub sees_end_by : KeptTable → KeptSnapshot → Option End → Bool
sees_end_by table snap None = false
sees_end_by table snap (Some e) = counts (slice_index_or table.fates e.by.number Running) && sees_by table snap e.by.number e.cmd

-- whether a scan shows the version, told from what is kept
abbrev pub shows_by : KeptTable → KeptSnapshot → Stored → Bool
shows_by table snap x = sees_by table snap x.version.by.number x.version.cmd && not (sees_end_by table snap x.ended)

-- what a scan shows of a version: its number and its values
abbrev pub shown_version : Version → RowId × List Value
shown_version v = (v.id, v.row)

abbrev pub shown_stored : Stored → RowId × List Value
shown_stored x = (x.version.id, x.version.row)

-- the rows that a scan has still to show, of the versions with these numbers
abbrev pub rows_left : KeptTable → KeptSnapshot → List Stored → List RowId → List (RowId × List Value)
rows_left table snap stored ids = map shown_stored (filter (shows_by table snap) (map (stored_at stored) ids))
