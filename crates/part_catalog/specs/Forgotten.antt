-- Entries that nobody can see any more, and lists without some of them (the manual, 13.2, and ALTER TABLE, DETACH
-- PARTITION).
use Rattle.std.specs.Prelude.{◌≡◌, ℕ, ◌||◌, Bool, true, false, List, [], ◌∷◌, ◌⊎◌, Option, Some, None, filter}
use Rattle.history.specs.declared.catalogue.Entry.{Entry}
use Rattle.history.specs.declared.catalogue.Stamp.{Stamp}
use Rattle.history.specs.Transactions.{TxEvents, fate, is_committed, was_aborted, IsSound}
use Rattle.history.specs.Snapshots.{TakenSnapshot}
use Rattle.history.specs.Catalogue.{entries_added, entry_ends, newest_of}
use Rattle.history.specs.History.{Event, History, tx_events, catalogue_events}
use Rattle.history.specs.Places.{AreCatalogueSound}
use Rattle.history.specs.Presence.{is_present, is_shown, entries_present, entries_shown}

-- the end is committed
abbrev pub is_over : TxEvents → Option Stamp → Bool
is_over txs None = false
is_over txs (Some s) = is_committed (fate txs s.by.number)

-- the entry's birth was aborted, or its newest end is committed
abbrev pub is_gone : History → Entry → Bool
is_gone h e = was_aborted (tx_events h) e.by.number || is_over (tx_events h) (newest_of (entry_ends (catalogue_events h)) e.id.number)

abbrev pub IsGone : History → Entry → Type 0
IsGone h e = is_gone h e ≡ true

-- the second list is the first without some of those of which this holds
abbrev pub Thins : (Entry → Type 0) → List Entry → List Entry → Type 0
Thins P [] [] = Unit {0}
Thins P [] (y ∷ ys) = ⊥
Thins P (x ∷ xs) ys = (P x × Thins P xs ys) ⊎ ((rest : List Entry) × (ys ≡ x ∷ rest) × Thins P xs rest)

-- what is gone is there for no session
abbrev pub GoneAreHidden : Type 0
GoneAreHidden = (h : History) (session : ℕ) (e : Entry) → IsSound (tx_events h) → AreCatalogueSound h → is_gone h e ≡ true → is_present h session e ≡ false

-- and no event brings it back
abbrev pub GoneStayGone : Type 0
GoneStayGone = (event : Event) (h : History) (e : Entry) → IsSound (tx_events (event ∷ h)) → AreCatalogueSound (event ∷ h) → is_gone h e ≡ true → is_gone (event ∷ h) e ≡ true

-- of a list without some that are gone, each session has the same entries, and each snapshot is shown the same
abbrev pub ForgottenAreNotMissed : Type 0
ForgottenAreNotMissed = (h : History) (session : ℕ) (snap : TakenSnapshot) (kept : List Entry) → IsSound (tx_events h) → AreCatalogueSound h → Thins (IsGone h) (entries_added (catalogue_events h)) kept
    → (filter (is_present h session) kept ≡ entries_present h session) × (filter (is_shown h session snap) kept ≡ entries_shown h session snap)

-- such a list stays one, whatever event of another kind comes
abbrev pub ThinStaysThin : Type 0
ThinStaysThin = (event : Event) (h : History) (all kept : List Entry) → IsSound (tx_events (event ∷ h)) → AreCatalogueSound (event ∷ h) → Thins (IsGone h) all kept → Thins (IsGone (event ∷ h)) all kept
