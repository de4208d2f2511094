-- Which partitions a tree shows (the manual, ALTER TABLE, DETACH PARTITION; 13.6).
use Rattle.std.specs.Prelude.{◌≡◌, ◌<◌, ℕ, zero, suc, false, [], ◌∷◌, ◌⊎◌}
use Rattle.std.specs.List.{Contains}
use Rattle.pg_values.specs.declared.ids.LeafId.{LeafId}
use Rattle.history.specs.declared.catalogue.Entry.{Entry}
use Rattle.history.specs.declared.catalogue.Stamp.{Stamp}
use Rattle.history.specs.Transactions.{was_aborted}
use Rattle.history.specs.Snapshots.{TakenSnapshot, sees}
use Rattle.history.specs.Catalogue.{CatalogueEvents, EntryAdded, EntryMarked, IsEntry, IsEntryEnd}
use Rattle.history.specs.History.{History, CatalogueChange, tx_events, catalogue_events}
use Rattle.history.specs.Presence.{counts}
use Rattle.history.specs.Legal.{IsLegal}
use Rattle.row_router.specs.Histories.{tree_of}
use Rattle.row_router.specs.Trees.{leaves}
use Rattle.soundness.specs.Worlds.{IsMade, HasLeaf, Present}
use Rattle.soundness.specs.Legal.{ArePermitted}

-- the entry of that number was marked pending there
abbrev pub IsMarkAt : CatalogueEvents → (entry : ℕ) → Stamp → Type 0
IsMarkAt [] k x = ⊥
IsMarkAt (EntryMarked n s ∷ cats) k x = ((n ≡ k) × (s ≡ x)) ⊎ IsMarkAt cats k x
IsMarkAt (_ ∷ cats) k x = IsMarkAt cats k x

-- its birth counts for the session, and no end of it does; and the snapshot sees no mark of it, unless that was taken back
pub record IsShownAttached (h : History) (session : ℕ) (s : TakenSnapshot) (e : Entry) : Type 0 where
  pub present : Present (catalogue_events h) (counts (tx_events h) session) e
  pub unmarked : (x : Stamp) → IsMarkAt (catalogue_events h) e.id.number x → was_aborted (tx_events h) x.by.number ≡ false → sees (tx_events h) s x.by.number x.cmd ≡ false

-- a table stands so many steps below another one, by such entries alone
abbrev pub IsLedDown : History → (session : ℕ) → TakenSnapshot → (steps top x : ℕ) → Type 0
IsLedDown h session s zero top x = top ≡ x
IsLedDown h session s (suc n) top x = (e : Entry) × IsShownAttached h session s e × (e.parent.number ≡ top) × IsLedDown h session s n e.child.number x

-- the leaf is that of a table below
pub record IsShownBelow (h : History) (session : ℕ) (s : TakenSnapshot) (top : ℕ) (leaf : LeafId) : Type 0 where
  pub steps : ℕ
  pub table : ℕ
  pub led : IsLedDown h session s steps top table
  pub home : HasLeaf (catalogue_events h) table leaf

-- so it is of each leaf of a tree, whichever session reads the tree, and under whichever snapshot
abbrev pub TreesAreFresh : History → Type 0
TreesAreFresh h = (session top : ℕ) (s : TakenSnapshot) (leaf : LeafId) → IsMade (catalogue_events h) top → Contains (leaves (tree_of h session top s)) leaf → IsShownBelow h session s top leaf

abbrev pub TreesShowWhatIsAttached : Type 0
TreesShowWhatIsAttached = (h : History) → IsLegal h → ArePermitted h → TreesAreFresh h

-- a number of its own, which no older entry, end or mark has
pub record IsAnother (h : History) (e : Entry) : Type 0 where
  pub entries : (f : Entry) → IsEntry (catalogue_events h) f → f.id.number < e.id.number
  pub unended : (u : ℕ) → IsEntryEnd (catalogue_events h) e.id.number u → ⊥
  pub unmarked : (x : Stamp) → IsMarkAt (catalogue_events h) e.id.number x → ⊥

-- so it is of the entry that the last event has added
abbrev pub AddedIsAnother : History → Type 0
AddedIsAnother h = (e : Entry) (before : History) → h ≡ CatalogueChange (EntryAdded e) ∷ before → IsAnother before e

-- no statement shows rows through an entry whose mark its snapshot sees, or whose end counts for it; and an entry that a
-- later ATTACH adds is another one
pub record IsFresh (h : History) : Type 0 where
  pub trees : TreesAreFresh h
  pub added : AddedIsAnother h

abbrev pub AttachedAgainIsAnother : Type 0
AttachedAgainIsAnother = (h : History) (e : Entry) → IsLegal (CatalogueChange (EntryAdded e) ∷ h) → IsAnother h e
