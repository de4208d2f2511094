-- What DETACH and ATTACH of one partition leave as it was (the manual, ALTER TABLE).
use Rattle.std.specs.Prelude.{◌≡◌, ℕ, ◌+◌, nat_lt, if◌then◌else◌, true, ◌∷◌, ◌++◌, None, length, map}
use Rattle.std.specs.List.{Contains}
use Rattle.history.specs.declared.catalogue.Entry.{Entry}
use Rattle.history.specs.declared.catalogue.Stamp.{Stamp}
use Rattle.history.specs.Transactions.{fate, is_committed}
use Rattle.history.specs.Snapshots.{TakenSnapshot}
use Rattle.history.specs.Catalogue.{CatalogueEvent, CatalogueEvents, TableMade, TableDropped, EntryAdded, EntryEnded, EntryMarked, CheckKept, entries_added, entry_ends, marks, counted_of}
use Rattle.history.specs.History.{History, tx_events, row_events, catalogue_events, seen}
use Rattle.history.specs.Legal.{IsLegal}
use Rattle.row_router.specs.Histories.{tree_of, path_of}
use Rattle.soundness.specs.Legal.{ArePermitted}

-- ---- an entry more

-- the number of an entry where one more has that number
abbrev pub number_behind : (n k : ℕ) → ℕ
number_behind n k = if nat_lt k n then k else k + 1

abbrev pub entry_behind : (n : ℕ) → Entry → Entry
entry_behind n e = record e { id = record { number = number_behind n e.id.number } }

abbrev pub event_behind : (n : ℕ) → CatalogueEvent → CatalogueEvent
event_behind n (TableMade t) = TableMade t
event_behind n (TableDropped k s) = TableDropped k s
event_behind n (EntryAdded e) = EntryAdded (entry_behind n e)
event_behind n (EntryEnded k s) = EntryEnded (number_behind n k) s
event_behind n (EntryMarked k s) = EntryMarked (number_behind n k) s
event_behind n (CheckKept c) = CheckKept c

-- ---- detached, and attached again

-- the one history is the other with two events more of the catalogue, of transactions that have committed: the entry by which a
-- table is a partition, which was not pending, ended, and it became a partition of the same table again, with the same bound.
-- Whatever happened to tables later happened in both, and the entry itself was left alone in the other; the numbers of later
-- entries tell of the one more
pub record IsBackAgain (g h : History) : Type 0 where
  pub old : Entry
  pub again : Entry
  pub stamp : Stamp
  pub later : CatalogueEvents
  pub until : CatalogueEvents
  pub transactions : tx_events g ≡ tx_events h
  pub rows : row_events g ≡ row_events h
  pub without : catalogue_events h ≡ later ++ until
  pub changes : catalogue_events g ≡ map (event_behind (length (entries_added until))) later ++ (EntryAdded again ∷ (EntryEnded old.id.number stamp ∷ until))
  pub parent : again.parent.number ≡ old.parent.number
  pub child : again.child.number ≡ old.child.number
  pub bound : again.bound ≡ old.bound
  pub number : again.id.number ≡ length (entries_added until)
  pub there : Contains (entries_added until) old
  pub committed : is_committed (fate (tx_events h) old.by.number) ≡ true
  pub standing : counted_of (tx_events h) (entry_ends (catalogue_events h)) old.id.number ≡ None
  pub unmarked : counted_of (tx_events h) (marks (catalogue_events h)) old.id.number ≡ None
  pub detached : is_committed (fate (tx_events h) stamp.by.number) ≡ true
  pub attached : is_committed (fate (tx_events h) again.by.number) ≡ true

-- so each session finds the same tree of each table, and the same path above it, by which a row is tested that is written to
-- the table by its own name; and each snapshot sees the same rows, of which the answer to a query is made
pub record IsAsBefore (g h : History) (session table leaf : ℕ) (s : TakenSnapshot) : Type 0 where
  pub tree : tree_of g session table s ≡ tree_of h session table s
  pub path : path_of g session table ≡ path_of h session table
  pub rows : seen g leaf s ≡ seen h leaf s

abbrev pub DetachAndAttachShowTheSame : Type 0
DetachAndAttachShowTheSame = (g h : History) (session table leaf : ℕ) (s : TakenSnapshot) → IsLegal h → ArePermitted h → IsBackAgain g h → IsAsBefore g h session table leaf s
