-- Which event of row versions may come after a history (the manual, 13.1 and 13.2).
use Rattle.std.specs.Prelude.{◌≡◌, ℕ, ◌<◌, true, List, [], ◌∷◌, Some, slice_get}
use Rattle.history.specs.declared.transaction.TxId.{TxId}
use Rattle.history.specs.declared.version.Version.{Version}
use Rattle.history.specs.declared.version.End.{End}
use Rattle.history.specs.declared.version.Ending.{Ending}
use Rattle.history.specs.declared.version.Ending.TheVariants.{Deleted, MovedTo, ReplacedBy}
use Rattle.history.specs.Transactions.{IsRunning, sees_now}
use Rattle.history.specs.Rows.{RowEvent, LeafAdded, RowBorn, RowEnded, leaf_count}
use Rattle.history.specs.History.{History, RowChange, tx_events, row_events, versions, next_version, stands}

-- what the end of version k names is there, among those versions and so many leaves: the leaf that it moved
-- to; the version that replaces it, which has a greater number, is in the same leaf and was made by who
-- ended this one
abbrev pub IsEndingKnown : List Version → ℕ → ℕ → Version → TxId → Ending → Type 0
IsEndingKnown vs leaves k v by Deleted = Unit {0}
IsEndingKnown vs leaves k v by (MovedTo leaf) = leaf.number < leaves
IsEndingKnown vs leaves k v by (ReplacedBy id) = (w : Version) × (slice_get vs id.number ≡ Some w) × (k < id.number) × (w.leaf ≡ v.leaf) × (w.by ≡ by)

-- a version has the next number and a leaf that is there, and is made by a transaction that runs
pub record IsBirthSound (v : Version) (h : History) : Type 0 where
  pub number : v.id.number ≡ next_version h
  pub leaf : v.leaf.number < leaf_count (row_events h)
  pub by : IsRunning (tx_events h) v.by.number

-- a version that stands is ended by a transaction that runs and sees its birth, and what the end names is
-- there
pub record IsEndSound (k : ℕ) (e : End) (h : History) : Type 0 where
  pub standing : stands h k ≡ true
  pub version : Version
  pub there : slice_get (versions h) k ≡ Some version
  pub by : IsRunning (tx_events h) e.by.number
  pub seen : sees_now (tx_events h) e.by.number version.by.number ≡ true
  pub known : IsEndingKnown (versions h) (leaf_count (row_events h)) k version e.by e.how

-- the event may come after the history; a leaf has the next number
abbrev pub IsRowSound : RowEvent → History → Type 0
IsRowSound (LeafAdded l) h = l ≡ leaf_count (row_events h)
IsRowSound (RowBorn v) h = IsBirthSound v h
IsRowSound (RowEnded k e) h = IsEndSound k e h

-- each event of rows could come
abbrev pub AreRowsSound : History → Type 0
AreRowsSound [] = Unit {0}
AreRowsSound (RowChange e ∷ h) = IsRowSound e h × AreRowsSound h
AreRowsSound (_ ∷ h) = AreRowsSound h
