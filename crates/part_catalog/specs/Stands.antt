-- When the catalogue stands for what happened, and what is there, told from what is kept.
use Rattle.std.specs.Prelude.{◌≡◌, ℕ, ◌<◌, ◌==◌, ◌&&◌, ◌||◌, not, Bool, true, false, List, Option, Some, None, length, map, slice_index_or}
use Rattle.history.specs.declared.catalogue.Entry.{Entry}
use Rattle.history.specs.declared.catalogue.Stamp.{Stamp}
use Rattle.history.specs.declared.transaction.Fate.{Fate}
use Rattle.history.specs.declared.transaction.Fate.TheVariants.{Running, Committed, Aborted}
use Rattle.history.specs.Transactions.{TxEvents, fate, open_of, is_committed}
use Rattle.history.specs.Snapshots.{TakenSnapshot}
use Rattle.history.specs.Catalogue.{tables_made, entries_added, checks_kept, drops, entry_ends, marks, newest_of, standing}
use Rattle.history.specs.History.{History, catalogue_events}
use Rattle.history.specs.Places.{AreCatalogueSound}
use Rattle.history.specs.Presence.{is_own, counts, stamp_counts, sees_stamp}
use Rattle.tx_table.specs.Kept.{KeptTable}
use Rattle.part_catalog.specs.declared.stored.StoredTable.{StoredTable}
use Rattle.part_catalog.specs.declared.stored.StoredEntry.{StoredEntry}
use Rattle.part_catalog.specs.Forgotten.{IsGone, Thins}
use Rattle.part_catalog.specs.Kept.{KeptCatalogue, table_in, entry_in, stored_at, no_stored}

-- the catalogue stands for the history: some entries that are gone may be forgotten, and each that is kept has its newest
-- end and mark
pub record CatalogueStands (kept : KeptCatalogue) (h : History) : Type 0 where
  pub sound : AreCatalogueSound h
  pub tables : map table_in kept.tables ≡ tables_made (catalogue_events h)
  pub drops : (k : ℕ) → (slice_index_or kept.tables k no_stored).dropped ≡ newest_of (drops (catalogue_events h)) k
  pub added : kept.added ≡ length (entries_added (catalogue_events h))
  pub entries : Thins (IsGone h) (entries_added (catalogue_events h)) (map entry_in kept.entries)
  pub ends : (k : ℕ) → k < length kept.entries → (stored_at kept.entries k).ended ≡ newest_of (entry_ends (catalogue_events h)) (stored_at kept.entries k).entry.id.number
  pub marks : (k : ℕ) → k < length kept.entries → (stored_at kept.entries k).marked ≡ newest_of (marks (catalogue_events h)) (stored_at kept.entries k).entry.id.number
  pub checks : kept.checks ≡ checks_kept (catalogue_events h)

-- whether a table is there for a session, and an entry present, pending and shown
abbrev pub there_by : TxEvents → ℕ → StoredTable → Bool
there_by txs session x = counts txs session x.table.by.number && not (stamp_counts txs session (standing txs x.dropped))

abbrev pub present_by : TxEvents → ℕ → StoredEntry → Bool
present_by txs session x = counts txs session x.entry.by.number && not (stamp_counts txs session (standing txs x.ended))

abbrev pub pending_by : TxEvents → ℕ → StoredEntry → Bool
pending_by txs session x = present_by txs session x && stamp_counts txs session (standing txs x.marked)

abbrev pub shown_by : TxEvents → ℕ → TakenSnapshot → StoredEntry → Bool
shown_by txs session snap x = present_by txs session x && not (sees_stamp txs snap (standing txs x.marked))

-- an entry whose flag is set, where its number is its place
abbrev pub is_flagged : List Bool → Entry → Bool
is_flagged flags e = slice_index_or flags e.id.number false

-- the present entry above a table, and the pending one below it
abbrev pub above_by : TxEvents → (session table : ℕ) → StoredEntry → Bool
above_by txs session t x = (x.entry.child.number == t) && present_by txs session x

abbrev pub pending_below : TxEvents → (session table : ℕ) → StoredEntry → Bool
pending_below txs session t x = (x.entry.parent.number == t) && pending_by txs session x

-- an open transaction of another session made the table
abbrev pub is_running : Fate → Bool
is_running Running = true
is_running _ = false

abbrev pub made_elsewhere_by : TxEvents → ℕ → StoredTable → Bool
made_elsewhere_by txs session x = is_running (fate txs x.table.by.number) && not (is_own (open_of txs session) x.table.by.number)

-- an entry by its place
abbrev pub flagged_number : List Bool → ℕ → Bool
flagged_number flags k = slice_index_or flags k false

abbrev pub is_number : ℕ → ℕ → Bool
is_number n k = k == n

-- an entry by which the table is a partition, and whose flag is set
abbrev pub flagged_above : List Bool → (table : ℕ) → Entry → Bool
flagged_above flags t e = (e.child.number == t) && is_flagged flags e

-- the present entry by which the one table is a partition of the other
abbrev pub between_by : TxEvents → (session parent child : ℕ) → StoredEntry → Bool
between_by txs session parent child x = ((x.entry.parent.number == parent) && (x.entry.child.number == child)) && present_by txs session x

-- whether an entry is gone, told from what is kept of transactions
abbrev pub is_aborted : Fate → Bool
is_aborted Running = false
is_aborted Committed = false
is_aborted Aborted = true

abbrev pub over_by : KeptTable → Option Stamp → Bool
over_by txs None = false
over_by txs (Some s) = is_committed (slice_index_or txs.fates s.by.number Running)

abbrev pub gone_by : KeptTable → StoredEntry → Bool
gone_by txs x = is_aborted (slice_index_or txs.fates x.entry.by.number Running) || over_by txs x.ended

abbrev pub stays_by : KeptTable → StoredEntry → Bool
stays_by txs x = not (gone_by txs x)
