-- Which tables and entries are there for a session, and which pending entries a snapshot leaves out (the manual, 13.6
-- and ALTER TABLE, DETACH PARTITION). They are not read under the isolation level.
use Rattle.std.specs.Prelude.{ℕ, ◌==◌, ◌&&◌, ◌||◌, not, Bool, false, List, Option, Some, None, filter}
use Rattle.history.specs.declared.catalogue.Table.{Table}
use Rattle.history.specs.declared.catalogue.Entry.{Entry}
use Rattle.history.specs.declared.catalogue.Check.{Check}
use Rattle.history.specs.declared.catalogue.Stamp.{Stamp}
use Rattle.history.specs.Transactions.{TxEvents, fate, is_committed, open_of}
use Rattle.history.specs.Snapshots.{TakenSnapshot, sees}
use Rattle.history.specs.Catalogue.{tables_made, entries_added, checks_kept, drops, entry_ends, marks, counted_of}
use Rattle.history.specs.History.{History, tx_events, catalogue_events}

-- ---- what counts for a session

abbrev pub is_own : Option ℕ → ℕ → Bool
is_own None tx = false
is_own (Some t) tx = t == tx

-- what was committed, and what the session's open transaction did
abbrev pub counts : TxEvents → ℕ → ℕ → Bool
counts txs session tx = is_committed (fate txs tx) || is_own (open_of txs session) tx

abbrev pub stamp_counts : TxEvents → ℕ → Option Stamp → Bool
stamp_counts txs session None = false
stamp_counts txs session (Some s) = counts txs session s.by.number

-- a table, or an entry, is there for the session where its birth counts and its end does not
abbrev pub is_there : History → ℕ → Table → Bool
is_there h session t = counts (tx_events h) session t.by.number && not (stamp_counts (tx_events h) session (counted_of (tx_events h) (drops (catalogue_events h)) t.id.number))

abbrev pub is_present : History → ℕ → Entry → Bool
is_present h session e = counts (tx_events h) session e.by.number && not (stamp_counts (tx_events h) session (counted_of (tx_events h) (entry_ends (catalogue_events h)) e.id.number))

-- a present entry is pending where a mark of it counts
abbrev pub is_pending : History → ℕ → Entry → Bool
is_pending h session e = is_present h session e && stamp_counts (tx_events h) session (counted_of (tx_events h) (marks (catalogue_events h)) e.id.number)

-- the tables and entries that are there for the session, and the CHECKs that count for it
abbrev pub tables_there : History → ℕ → List Table
tables_there h session = filter (is_there h session) (tables_made (catalogue_events h))

abbrev pub entries_present : History → ℕ → List Entry
entries_present h session = filter (is_present h session) (entries_added (catalogue_events h))

abbrev pub is_check_of : TxEvents → ℕ → ℕ → Check → Bool
is_check_of txs session table c = (c.table.number == table) && counts txs session c.by.number

abbrev pub checks_of : History → ℕ → ℕ → List Check
checks_of h session table = filter (is_check_of (tx_events h) session table) (checks_kept (catalogue_events h))

-- ---- what a snapshot is shown

abbrev pub sees_stamp : TxEvents → TakenSnapshot → Option Stamp → Bool
sees_stamp txs snap None = false
sees_stamp txs snap (Some s) = sees txs snap s.by.number s.cmd

-- a present entry, unless the snapshot sees the mark that makes it pending
abbrev pub is_shown : History → ℕ → TakenSnapshot → Entry → Bool
is_shown h session snap e = is_present h session e && not (sees_stamp (tx_events h) snap (counted_of (tx_events h) (marks (catalogue_events h)) e.id.number))

abbrev pub entries_shown : History → ℕ → TakenSnapshot → List Entry
entries_shown h session snap = filter (is_shown h session snap) (entries_added (catalogue_events h))
