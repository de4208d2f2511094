-- Which partitions and tables a statement of a session may end and drop (the manual, DROP TABLE, and ALTER TABLE, DETACH
-- PARTITION).
use Rattle.std.specs.Prelude.{◌≡◌, ◌≢◌, ℕ, List, [], ◌∷◌, ◌++◌, ◌⊎◌, Option, Some, None}
use Rattle.std.specs.List.{AllPairs, Contains}
use Rattle.history.specs.declared.catalogue.Entry.{Entry}
use Rattle.history.specs.declared.catalogue.Stamp.{Stamp}
use Rattle.history.specs.Transactions.{open_of}
use Rattle.history.specs.Catalogue.{TableDropped, EntryEnded}
use Rattle.history.specs.History.{Event, History, CatalogueChange, tx_events}
use Rattle.history.specs.Presence.{entries_present}
use Rattle.history.specs.Legal.{IsInOrder}
use Rattle.row_router.specs.Histories.{above}
use Rattle.soundness.specs.Legal.{Has, HasTable}
use Rattle.legal_statements.specs.Below.{numbers_from}
use Rattle.legal_statements.specs.Locked.{IsOwned, IsGuarded}

-- the entries of these numbers end, one after the other
abbrev pub entries_end : Stamp → List ℕ → List Event
entries_end s [] = []
entries_end s (k ∷ ks) = entries_end s ks ++ CatalogueChange (EntryEnded k s) ∷ []

-- and these tables are dropped
abbrev pub tables_go : Stamp → List ℕ → List Event
tables_go s [] = []
tables_go s (x ∷ xs) = tables_go s xs ++ CatalogueChange (TableDropped x s) ∷ []

-- an entry of that number is there for the transaction, and its session may change the partitions of the parent
abbrev pub IsOldPlace : History → (session t : ℕ) → ℕ → Type 0
IsOldPlace h session t k = (e : Entry) × Has h t e × (e.id.number ≡ k) × IsGuarded h session e.parent.number

-- one of the tables is the parent or the child of the entry
abbrev pub IsOf : List ℕ → Entry → Type 0
IsOf tables e = Contains tables e.parent.number ⊎ Contains tables e.child.number

-- the session's transaction ends these entries and drops these tables, all of which are there and which nobody else may use;
-- no entry of one of the tables is left
pub record IsDrop (h : History) (session : ℕ) (s : Stamp) (entries tables : List ℕ) : Type 0 where
  pub own : open_of (tx_events h) session ≡ Some s.by.number
  pub command : IsInOrder (Some (s.by.number, s.cmd)) h
  pub entries_there : (k : ℕ) → Contains entries k → IsOldPlace h session s.by.number k
  pub entries_once : AllPairs (λ a b. a ≢ b) entries
  pub tables_there : (x : ℕ) → Contains tables x → HasTable h s.by.number x × IsOwned h session x
  pub tables_once : AllPairs (λ a b. a ≢ b) tables
  pub none_left : (e : Entry) → Has h s.by.number e → IsOf tables e → Contains entries e.id.number

-- ---- DROP TABLE

-- the entries by which tables are partitions for the session, by their numbers
abbrev pub place_over : Option Entry → List ℕ
place_over None = []
place_over (Some e) = e.id.number ∷ []

abbrev pub places_over : History → (session : ℕ) → List ℕ → List ℕ
places_over h session [] = []
places_over h session (x ∷ xs) = place_over (above (entries_present h session) x) ++ places_over h session xs

-- a table and all below it go, after the entries of all of them ended
abbrev pub table_drop : History → (session table : ℕ) → Stamp → List Event
table_drop h session top s = tables_go s (numbers_from h session top) ++ entries_end s (places_over h session (numbers_from h session top))

-- the table is there, nobody else may use it or what is below it, and the session may change the partitions of its parent
pub record IsTableDrop (h : History) (session table : ℕ) (s : Stamp) : Type 0 where
  pub own : open_of (tx_events h) session ≡ Some s.by.number
  pub command : IsInOrder (Some (s.by.number, s.cmd)) h
  pub there : HasTable h s.by.number table
  pub owned : (x : ℕ) → Contains (numbers_from h session table) x → IsOwned h session x
  pub guarded : (e : Entry) → above (entries_present h session) table ≡ Some e → IsGuarded h session e.parent.number
