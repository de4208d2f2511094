-- What happened to tables, to their places as partitions and to their CHECKs (the manual, 5.11.2 and 13.6). The
-- newest event stands first.
use Rattle.std.specs.Prelude.{◌≡◌, ℕ, ◌==◌, ◌&&◌, not, if◌then◌else◌, List, [], ◌∷◌, ◌++◌, ◌⊎◌, Option, Some, None}
use Rattle.history.specs.declared.catalogue.Table.{Table}
use Rattle.history.specs.declared.catalogue.Entry.{Entry}
use Rattle.history.specs.declared.catalogue.Stamp.{Stamp}
use Rattle.history.specs.declared.catalogue.Check.{Check}
use Rattle.history.specs.Transactions.{TxEvents, was_aborted}

-- a table was made; one was dropped; an entry was added; one was ended; one was marked pending; a CHECK was kept
pub data CatalogueEvent : Type 0 where
  TableMade : Table → CatalogueEvent
  TableDropped : (table : ℕ) → Stamp → CatalogueEvent
  EntryAdded : Entry → CatalogueEvent
  EntryEnded : (entry : ℕ) → Stamp → CatalogueEvent
  EntryMarked : (entry : ℕ) → Stamp → CatalogueEvent
  CheckKept : Check → CatalogueEvent

abbrev pub CatalogueEvents : Type 0
CatalogueEvents = List CatalogueEvent

-- the transaction and the number of the command that an event names
abbrev pub catalogue_command : CatalogueEvent → Option (ℕ × ℕ)
catalogue_command (TableMade t) = Some (t.by.number, t.cmd)
catalogue_command (TableDropped k s) = Some (s.by.number, s.cmd)
catalogue_command (EntryAdded e) = Some (e.by.number, e.cmd)
catalogue_command (EntryEnded k s) = Some (s.by.number, s.cmd)
catalogue_command (EntryMarked k s) = Some (s.by.number, s.cmd)
catalogue_command (CheckKept c) = Some (c.by.number, c.cmd)

-- all tables, all entries and all CHECKs, in the order in which they were made, added and kept
abbrev pub tables_made : CatalogueEvents → List Table
tables_made [] = []
tables_made (TableMade t ∷ h) = tables_made h ++ t ∷ []
tables_made (_ ∷ h) = tables_made h

abbrev pub entries_added : CatalogueEvents → List Entry
entries_added [] = []
entries_added (EntryAdded e ∷ h) = entries_added h ++ e ∷ []
entries_added (_ ∷ h) = entries_added h

abbrev pub checks_kept : CatalogueEvents → List Check
checks_kept [] = []
checks_kept (CheckKept c ∷ h) = checks_kept h ++ c ∷ []
checks_kept (_ ∷ h) = checks_kept h

-- which tables were dropped, which entries ended and which marked, by their numbers, the newest first
abbrev pub Stamps : Type 0
Stamps = List (ℕ × Stamp)

abbrev pub drops : CatalogueEvents → Stamps
drops [] = []
drops (TableDropped k s ∷ h) = (k, s) ∷ drops h
drops (_ ∷ h) = drops h

abbrev pub entry_ends : CatalogueEvents → Stamps
entry_ends [] = []
entry_ends (EntryEnded k s ∷ h) = (k, s) ∷ entry_ends h
entry_ends (_ ∷ h) = entry_ends h

abbrev pub marks : CatalogueEvents → Stamps
marks [] = []
marks (EntryMarked k s ∷ h) = (k, s) ∷ marks h
marks (_ ∷ h) = marks h

-- the newest one of that number
abbrev pub newest_of : Stamps → ℕ → Option Stamp
newest_of [] k = None
newest_of (d ∷ ds) k = if d.0 == k then Some d.1 else newest_of ds k

-- the newest one of that number whose transaction is not aborted
abbrev pub counted_of : TxEvents → Stamps → ℕ → Option Stamp
counted_of txs [] k = None
counted_of txs (d ∷ ds) k = if (d.0 == k) && not (was_aborted txs d.1.by.number) then Some d.1 else counted_of txs ds k

-- the stamp, where it counts: one of an aborted transaction does not
abbrev pub standing : TxEvents → Option Stamp → Option Stamp
standing txs None = None
standing txs (Some s) = if was_aborted txs s.by.number then None else Some s

-- ---- the same as propositions: each new event adds one case and keeps the others

-- there is such a table
abbrev pub IsTable : CatalogueEvents → Table → Type 0
IsTable [] x = ⊥
IsTable (TableMade t ∷ h) x = (t ≡ x) ⊎ IsTable h x
IsTable (_ ∷ h) x = IsTable h x

-- the table of that number was dropped by that transaction
abbrev pub IsDropped : CatalogueEvents → (table by : ℕ) → Type 0
IsDropped [] k t = ⊥
IsDropped (TableDropped n s ∷ h) k t = ((n ≡ k) × (s.by.number ≡ t)) ⊎ IsDropped h k t
IsDropped (_ ∷ h) k t = IsDropped h k t

-- there is such an entry
abbrev pub IsEntry : CatalogueEvents → Entry → Type 0
IsEntry [] x = ⊥
IsEntry (EntryAdded e ∷ h) x = (e ≡ x) ⊎ IsEntry h x
IsEntry (_ ∷ h) x = IsEntry h x

-- the entry of that number was ended by that transaction
abbrev pub IsEntryEnd : CatalogueEvents → (entry by : ℕ) → Type 0
IsEntryEnd [] k t = ⊥
IsEntryEnd (EntryEnded n s ∷ h) k t = ((n ≡ k) × (s.by.number ≡ t)) ⊎ IsEntryEnd h k t
IsEntryEnd (_ ∷ h) k t = IsEntryEnd h k t

-- and marked pending
abbrev pub IsMark : CatalogueEvents → (entry by : ℕ) → Type 0
IsMark [] k t = ⊥
IsMark (EntryMarked n s ∷ h) k t = ((n ≡ k) × (s.by.number ≡ t)) ⊎ IsMark h k t
IsMark (_ ∷ h) k t = IsMark h k t

-- there is such a CHECK
abbrev pub IsKeptCheck : CatalogueEvents → Check → Type 0
IsKeptCheck [] x = ⊥
IsKeptCheck (CheckKept c ∷ h) x = (c ≡ x) ⊎ IsKeptCheck h x
IsKeptCheck (_ ∷ h) x = IsKeptCheck h x
