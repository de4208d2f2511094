-- Which event is permitted after a history, beside what the history itself asks: what is locked, tested and scanned
-- before it. Each condition speaks of what the session has by itself.
use Rattle.std.specs.Prelude.{◌≡◌, ◌≢◌, ℕ, ◌+◌, ◌<◌, true, false, List, [], ◌∷◌, ◌⊎◌, Some, None, length}
use Rattle.pg_values.specs.declared.value.Value.{Value}
use Rattle.pg_values.specs.declared.ids.LeafId.{LeafId}
use Rattle.bound_forms.specs.Accepts.{accepts, is_default}
use Rattle.bound_forms.specs.Within.{within}
use Rattle.bound_forms.specs.declared.level.Level.{Level}
use Rattle.history.specs.declared.transaction.Fate.TheVariants.{Running}
use Rattle.history.specs.declared.version.Version.{Version}
use Rattle.history.specs.declared.version.End.{End}
use Rattle.history.specs.declared.catalogue.Table.{Table}
use Rattle.history.specs.declared.catalogue.TableShape.TheVariants.{Leaf, Level as Levels}
use Rattle.history.specs.declared.catalogue.Entry.{Entry}
use Rattle.history.specs.declared.catalogue.Stamp.{Stamp}
use Rattle.history.specs.declared.catalogue.Check.{Check}
use Rattle.history.specs.declared.wait.Wanted.TheVariants.{Lock, Others}
use Rattle.history.specs.Transactions.{open_of, fate, IsRunning}
use Rattle.history.specs.Snapshots.{TakenSnapshot, held_by}
use Rattle.history.specs.Rows.{LeafAdded, RowBorn, RowEnded}
use Rattle.history.specs.Catalogue.{TableMade, TableDropped, EntryAdded, EntryEnded, EntryMarked, CheckKept, IsEntry}
use Rattle.history.specs.Locks.{LockGot, LocksGivenUp, SnapshotGone, WaitBegan, WaitResumed, WaitWithdrawn}
use Rattle.history.specs.History.{Event, History, TxChange, SnapshotChange, RowChange, CatalogueChange, LockChange, tx_events, snapshot_events, row_events, catalogue_events}
use Rattle.row_router.specs.Siblings.{CanStandTogether}
use Rattle.soundness.specs.Versions.{IsVersion}
use Rattle.soundness.specs.Worlds.{view, table_in, IsMade, HasLeaf, key_at, Present, IsThere, IsPending, Under, Accepts, AcceptAbove}
use Rattle.soundness.specs.Shown.{IsJudged}
use Rattle.soundness.specs.Parts.{AreChildren, IsMaker, IsKnown, OwnsIn, WritesIn, GuardsIn}
use Rattle.soundness.specs.Kept.{CountsIn, PassAbove, Repeats}
use Rattle.soundness.specs.Columns.{IsOfTable}

-- ---- what the session of a transaction has: entries, tables, and the ways through them

abbrev pub Has : History → ℕ → Entry → Type 0
Has h t e = Present (catalogue_events h) (view (tx_events h) t) e

abbrev pub HasPending : History → ℕ → Entry → Type 0
HasPending h t e = IsPending (catalogue_events h) (view (tx_events h) t) e

abbrev pub HasTable : History → ℕ → ℕ → Type 0
HasTable h t x = IsThere (catalogue_events h) (view (tx_events h) t) x

abbrev pub Below : History → ℕ → ℕ → ℕ → ℕ → Type 0
Below h t n top x = Under (catalogue_events h) (view (tx_events h) t) n top x

abbrev pub Takes : History → ℕ → Entry → List Value → Type 0
Takes h t e row = Accepts (catalogue_events h) (view (tx_events h) t) e row

abbrev pub HasCheck : History → ℕ → Check → Type 0
HasCheck h t c = CountsIn (catalogue_events h) (view (tx_events h) t) c

-- what it holds

abbrev pub OwnsNow : History → ℕ → ℕ → Type 0
OwnsNow h t x = OwnsIn h (view (tx_events h) t) t x

abbrev pub WritesNow : History → ℕ → ℕ → Type 0
WritesNow h t x = WritesIn h (view (tx_events h) t) t x

abbrev pub GuardsNow : History → ℕ → ℕ → Type 0
GuardsNow h t x = GuardsIn h (view (tx_events h) t) t x

-- and what a scan by it judges

abbrev pub Judges : History → ℕ → Version → Type 0
Judges h t v = IsJudged (tx_events h) (snapshot_events h) (row_events h) t v

-- ---- rows

-- the leaf is locked with RE, the row is one of its table's columns, each partition on its path accepts it, and it passes each
-- CHECK there
pub record MayBear (h : History) (v : Version) : Type 0 where
  pub locked : (x : ℕ) → HasLeaf (catalogue_events h) x v.leaf → WritesNow h v.by.number x
  pub columns : (x : ℕ) → HasLeaf (catalogue_events h) x v.leaf → IsOfTable (catalogue_events h) x v.row
  pub routed : (x : ℕ) → HasLeaf (catalogue_events h) x v.leaf → AcceptAbove (catalogue_events h) (view (tx_events h) v.by.number) x v.row
  pub passes : (x : ℕ) → HasLeaf (catalogue_events h) x v.leaf → PassAbove (catalogue_events h) (view (tx_events h) v.by.number) x v.row

-- the version's leaf is locked with RE
pub record MayEndRow (h : History) (k : ℕ) (y : End) : Type 0 where
  pub locked : (v : Version) (x : ℕ) → IsVersion (row_events h) v → v.id.number ≡ k → HasLeaf (catalogue_events h) x v.leaf → WritesNow h y.by.number x

-- ---- tables

-- the table's leaf is a new one, that no table has and no version lies in; and its name is free: no table that is there for
-- the session has it, and no open transaction of another session made one of that name
pub record MayMake (h : History) (t : Table) : Type 0 where
  pub acts : IsRunning (tx_events h) t.by.number
  pub empty : (v : Version) → IsVersion (row_events h) v → t.shape ≢ Leaf v.leaf
  pub only : (x : ℕ) (leaf : LeafId) → HasLeaf (catalogue_events h) x leaf → t.shape ≢ Leaf leaf
  pub free : (x : ℕ) → HasTable h t.by.number x → (table_in (catalogue_events h) x).name ≢ t.name
  pub unclaimed : (x : ℕ) → IsMade (catalogue_events h) x → (table_in (catalogue_events h) x).name ≡ t.name
      → fate (tx_events h) (table_in (catalogue_events h) x).by.number ≡ Running → (table_in (catalogue_events h) x).by.number ≡ t.by.number

-- the table is locked with AE, and no entry that the session has names it
pub record MayDrop (h : History) (x : ℕ) (s : Stamp) : Type 0 where
  pub acts : IsRunning (tx_events h) s.by.number
  pub locked : OwnsNow h s.by.number x
  pub free : (e : Entry) → Has h s.by.number e → (e.parent.number ≢ x) × (e.child.number ≢ x)

-- ---- entries

-- the entry has a place below its parent: both tables are there, the parent is guarded and has room, and all below the
-- default there is owned. It can stand together with its siblings, is no DEFAULT beside a pending one, and accepts no
-- version that a scan judges below the default.
pub record HasPlace (h : History) (e : Entry) : Type 0 where
  pub acts : IsRunning (tx_events h) e.by.number
  pub there : HasTable h e.by.number e.parent.number × HasTable h e.by.number e.child.number
  pub parent_locked : GuardsNow h e.by.number e.parent.number
  pub default_locked : (d : Entry) (n x : ℕ) → Has h e.by.number d → d.parent.number ≡ e.parent.number → is_default d.bound ≡ true
      → Below h e.by.number n d.child.number x → OwnsNow h e.by.number x
  pub roomy : (es : List Entry) → AreChildren (catalogue_events h) (view (tx_events h) e.by.number) e.parent.number es → length es < 1024
  pub together : (g : Entry) → Has h e.by.number g → CanStandTogether g e
  pub no_pending : (g : Entry) → Has h e.by.number g → g.parent.number ≡ e.parent.number → HasPending h e.by.number g → is_default e.bound ≡ false
  pub default_scanned : (d : Entry) (v : Version) (n x : ℕ) → Has h e.by.number d → d.parent.number ≡ e.parent.number → is_default d.bound ≡ true
      → IsVersion (row_events h) v → HasLeaf (catalogue_events h) x v.leaf → Below h e.by.number n d.child.number x → Judges h e.by.number v
      → accepts (key_at (catalogue_events h) e.parent.number v.row) e.bound ≡ false

-- an ATTACH. All below the child is owned; the child is no partition yet and does not stand above the parent, and no path
-- gets too long. Each version that a scan judges below the child is accepted by the entry and by those above it, and passes
-- the CHECKs of the parent and of those above it.
pub record MayAdd (h : History) (e : Entry) : Type 0 where
  pub place : HasPlace h e
  pub child_locked : (n x : ℕ) → Below h e.by.number n e.child.number x → OwnsNow h e.by.number x
  pub no_partition : (g : Entry) → Has h e.by.number g → g.child.number ≢ e.child.number
  pub not_above : (n : ℕ) → Below h e.by.number n e.child.number e.parent.number → ⊥
  pub shallow : (n m top x : ℕ) → Below h e.by.number n top e.parent.number → Below h e.by.number m e.child.number x → n + m + 1 ≡ 8 → ⊥
  pub scanned : (v : Version) (n x : ℕ) → IsVersion (row_events h) v → HasLeaf (catalogue_events h) x v.leaf → Below h e.by.number n e.child.number x → Judges h e.by.number v
      → Takes h e.by.number e v.row × ((f : Entry) (k : ℕ) → Has h e.by.number f → Below h e.by.number k f.child.number e.parent.number → Takes h e.by.number f v.row)
  pub passes : (v : Version) (n x : ℕ) → IsVersion (row_events h) v → HasLeaf (catalogue_events h) x v.leaf → Below h e.by.number n e.child.number x → Judges h e.by.number v
      → PassAbove (catalogue_events h) (view (tx_events h) e.by.number) e.parent.number v.row

-- a CHECK of the child says all that the new place asks: its level has the columns of the parent's and its bound lies inside
-- the new one, so both are of one strategy
pub record Implies (h : History) (e : Entry) (c : Check) : Type 0 where
  pub kept : HasCheck h e.by.number c
  pub child : c.table.number ≡ e.child.number
  pub level : Level
  pub shape : (table_in (catalogue_events h) e.parent.number).shape ≡ Levels level
  pub columns : level.columns ≡ c.kept.level.columns
  pub inside : within c.kept.bound e.bound ≡ true

-- an ATTACH without one: the parent is no partition and has no CHECK, and a CHECK of the child says all that is asked. Open
-- snapshots are of transactions that run.
pub record MaySkip (h : History) (e : Entry) : Type 0 where
  pub place : HasPlace h e
  pub child_locked : (n x : ℕ) → Below h e.by.number n e.child.number x → OwnsNow h e.by.number x
  pub no_partition : (g : Entry) → Has h e.by.number g → g.child.number ≢ e.child.number
  pub not_above : (n : ℕ) → Below h e.by.number n e.child.number e.parent.number → ⊥
  pub shallow : (n m top x : ℕ) → Below h e.by.number n top e.parent.number → Below h e.by.number m e.child.number x → n + m + 1 ≡ 8 → ⊥
  pub parent_alone : (g : Entry) → Has h e.by.number g → g.child.number ≢ e.parent.number
  pub parent_unchecked : (d : Check) → HasCheck h e.by.number d → d.table.number ≢ e.parent.number
  pub implied : (c : Check) × Implies h e c
  pub looking : (r : ℕ) (s : TakenSnapshot) → held_by (snapshot_events h) r ≡ Some s → fate (tx_events h) s.tx ≡ Running

-- a CREATE .. PARTITION OF: the transaction has just made the child, another table than the parent; no entry names it, and
-- it has no row
pub record MayCreate (h : History) (e : Entry) : Type 0 where
  pub place : HasPlace h e
  pub made : IsMaker (catalogue_events h) e.by.number e.child.number
  pub another : e.parent.number ≢ e.child.number
  pub alone : (g : Entry) → Has h e.by.number g → (g.parent.number ≢ e.child.number) × (g.child.number ≢ e.child.number)
  pub empty : (v : Version) → IsVersion (row_events h) v → HasLeaf (catalogue_events h) e.child.number v.leaf → ⊥
  pub shallow : (n top : ℕ) → Below h e.by.number n top e.parent.number → n + 1 ≡ 8 → ⊥

-- a DETACH, or a part of a DROP: the parent is guarded
pub record MayEndEntry (h : History) (k : ℕ) (s : Stamp) : Type 0 where
  pub acts : IsRunning (tx_events h) s.by.number
  pub locked : (e : Entry) → IsEntry (catalogue_events h) e → e.id.number ≡ k → GuardsNow h s.by.number e.parent.number

-- the first stage of a concurrent DETACH: the parent is guarded, and no sibling is pending or the default
pub record MayMark (h : History) (k : ℕ) (s : Stamp) : Type 0 where
  pub acts : IsRunning (tx_events h) s.by.number
  pub locked : (e : Entry) → IsEntry (catalogue_events h) e → e.id.number ≡ k → GuardsNow h s.by.number e.parent.number
  pub none_beside : (e g : Entry) → IsEntry (catalogue_events h) e → e.id.number ≡ k → Has h s.by.number g → g.parent.number ≡ e.parent.number
      → (HasPending h s.by.number g → ⊥) × (is_default g.bound ≡ false)

-- the CHECK repeats an entry that the session has, and whose parent is guarded
pub record IsTakenFrom (h : History) (c : Check) (e : Entry) : Type 0 where
  pub has : Has h c.by.number e
  pub repeats : Repeats (catalogue_events h) c e
  pub guarded : GuardsNow h c.by.number e.parent.number

-- the third stage of a concurrent DETACH, or FINALIZE, before it ends the entry: the CHECK repeats it, and the table is
-- owned. An equal one is not kept twice.
pub record MayKeep (h : History) (c : Check) : Type 0 where
  pub acts : IsRunning (tx_events h) c.by.number
  pub from_entry : (e : Entry) × IsTakenFrom h c e
  pub locked : OwnsNow h c.by.number c.table.number
  pub another : (d : Check) → HasCheck h c.by.number d → d.table.number ≡ c.table.number → d.kept ≢ c.kept

-- ---- the events

-- the event is permitted after the history: a lock is asked for only on a table that no open transaction of another
-- session made, and locks are given up only where the session has no open transaction
abbrev pub IsPermitted : Event → History → Type 0
IsPermitted (TxChange e) h = Unit {0}
IsPermitted (SnapshotChange e) h = Unit {0}
IsPermitted (RowChange (LeafAdded leaf)) h = Unit {0}
IsPermitted (RowChange (RowBorn v)) h = MayBear h v
IsPermitted (RowChange (RowEnded k y)) h = MayEndRow h k y
IsPermitted (CatalogueChange (TableMade t)) h = MayMake h t
IsPermitted (CatalogueChange (TableDropped x s)) h = MayDrop h x s
IsPermitted (CatalogueChange (EntryAdded e)) h = MayAdd h e ⊎ MaySkip h e
IsPermitted (CatalogueChange (EntryEnded k s)) h = MayEndEntry h k s
IsPermitted (CatalogueChange (EntryMarked k s)) h = MayMark h k s
IsPermitted (CatalogueChange (CheckKept c)) h = MayKeep h c
IsPermitted (LockChange (LockGot s x m)) h = IsKnown (tx_events h) (catalogue_events h) s x
IsPermitted (LockChange (WaitBegan s (Lock x m))) h = IsKnown (tx_events h) (catalogue_events h) s x.number
IsPermitted (LockChange (LocksGivenUp s)) h = open_of (tx_events h) s ≡ None
IsPermitted (LockChange (SnapshotGone s)) h = Unit {0}
IsPermitted (LockChange (WaitBegan s (Others others))) h = Unit {0}
IsPermitted (LockChange (WaitResumed s)) h = Unit {0}
IsPermitted (LockChange (WaitWithdrawn s)) h = Unit {0}

-- each event was permitted
abbrev pub ArePermitted : History → Type 0
ArePermitted [] = Unit {0}
ArePermitted (e ∷ h) = IsPermitted e h × ArePermitted h
