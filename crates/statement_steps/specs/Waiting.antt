-- What may come while a statement waits, and what stays as it was meanwhile (the manual, 13.3.1 Table-Level Locks; 5.11.2
-- Declarative Partitioning).
use Rattle.std.specs.Prelude.{◌≡◌, ◌≢◌, ℕ, List, [], ◌∷◌, ◌++◌, Some}
use Rattle.pg_values.specs.declared.value.Value.{Value}
use Rattle.history.specs.declared.catalogue.Entry.{Entry}
use Rattle.history.specs.Catalogue.{EntryAdded}
use Rattle.history.specs.Transactions.{open_of}
use Rattle.history.specs.History.{Event, History, CatalogueChange, tx_events, catalogue_events}
use Rattle.soundness.specs.Worlds.{key_at, view, AcceptAbove}
use Rattle.soundness.specs.Legal.{Has, Below, Takes}
use Rattle.legal_statements.specs.Locked.{IsWritable}
use Rattle.stores.specs.Good.{IsGood}

-- the event is no entry that the transaction adds
abbrev pub AddsNone : (tx : ℕ) → Event → Type 0
AddsNone tx (CatalogueChange (EntryAdded e)) = e.by.number ≢ tx
AddsNone tx _ = Unit {0}

abbrev pub AddNone : (tx : ℕ) → History → Type 0
AddNone tx [] = Unit {0}
AddNone tx (e ∷ events) = AddsNone tx e × AddNone tx events

-- what came since was done by others: the session's transaction is the same, and has added no entry
pub record Since (session : ℕ) (earlier h : History) : Type 0 where
  pub events : History
  pub is : h ≡ events ++ earlier
  pub same : open_of (tx_events h) session ≡ open_of (tx_events earlier) session
  pub others : (t : ℕ) → open_of (tx_events earlier) session ≡ Some t → AddNone t events

-- an entry so many steps above a table was there before, and accepts what it accepted then
pub record WasAbove (earlier h : History) (t x : ℕ) (e : Entry) (n : ℕ) : Type 0 where
  pub there : Has earlier t e
  pub below : Below earlier t n e.child.number x
  pub keys : (row : List Value) → key_at (catalogue_events earlier) e.parent.number row ≡ key_at (catalogue_events h) e.parent.number row
  pub takes : (row : List Value) → Takes earlier t e row → Takes h t e row

-- so it is of each entry above the table
abbrev pub StaysAbove : (earlier h : History) → (t x : ℕ) → Type 0
StaysAbove earlier h t x = (e : Entry) (n : ℕ) → Has h t e → Below h t n e.child.number x → WasAbove earlier h t x e n

-- while a transaction may write a table, others add nothing above it
abbrev pub NothingIsAddedAbove : Type 0
NothingIsAddedAbove = (earlier h : History) (session t x : ℕ) → IsGood h → Since session earlier h → open_of (tx_events earlier) session ≡ Some t → IsWritable earlier session x → StaysAbove earlier h t x

-- so the table accepts, after whatever they do, what it accepted before
abbrev pub WaitingStatementsAccept : Type 0
WaitingStatementsAccept = (earlier h : History) (session t x : ℕ) (row : List Value) → IsGood h → Since session earlier h → open_of (tx_events earlier) session ≡ Some t → IsWritable earlier session x
    → AcceptAbove (catalogue_events earlier) (view (tx_events earlier) t) x row → AcceptAbove (catalogue_events h) (view (tx_events h) t) x row
