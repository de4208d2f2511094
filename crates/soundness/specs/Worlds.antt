-- A world is a set of transactions that could be the committed ones some day, and what stands in it (the manual, 13.2
-- and 5.11.2). What holds in every world holds for each session, now and after whatever commits and aborts may come.
use Rattle.std.specs.Prelude.{◌≡◌, ◌<◌, ℕ, zero, suc, ◌==◌, ◌&&◌, ◌||◌, Bool, true, false, List, [], ◌⊎◌, length}
use Rattle.pg_values.specs.declared.value.Value.{Value}
use Rattle.pg_values.specs.declared.ids.LeafId.{LeafId}
use Rattle.bound_forms.specs.declared.partition_bound.Bound.{Bound}
use Rattle.bound_forms.specs.Accepts.{accepts, is_default}
use Rattle.history.specs.declared.transaction.Fate.{Fate}
use Rattle.history.specs.declared.transaction.Fate.TheVariants.{Running, Committed, Aborted}
use Rattle.history.specs.declared.catalogue.Table.{Table}
use Rattle.history.specs.declared.catalogue.TableShape.{TableShape}
use Rattle.history.specs.declared.catalogue.TableShape.TheVariants.{Leaf, Level}
use Rattle.history.specs.declared.catalogue.Entry.{Entry}
use Rattle.history.specs.Transactions.{TxEvents, fate, is_committed}
use Rattle.history.specs.Catalogue.{CatalogueEvents, tables_made, IsDropped, IsEntry, IsEntryEnd, IsMark}
use Rattle.history.specs.Places.{table_at}
use Rattle.row_router.specs.Trees.{key_of}

abbrev pub World : Type 0
World = ℕ → Bool

-- two numbers are of one transaction
unfoldable pub same_tx : TxEvents → ℕ → ℕ → Bool
same_tx txs t k = k == t

abbrev pub is_running : Fate → Bool
is_running Running = true
is_running Committed = false
is_running Aborted = false

-- each committed transaction is in it, and no aborted one; of the others any
pub record IsWorld (txs : TxEvents) (w : World) : Type 0 where
  pub committed : (t : ℕ) → fate txs t ≡ Committed → w t ≡ true
  pub aborted : (t : ℕ) → fate txs t ≡ Aborted → w t ≡ false

-- the world of a session with that open transaction
abbrev pub view : TxEvents → ℕ → World
view txs t k = is_committed (fate txs k) || (same_tx txs t k && is_running (fate txs k))

-- the small world leaves whole transactions of the large one out
pub record IsPart (txs : TxEvents) (small large : World) : Type 0 where
  pub within : (t : ℕ) → small t ≡ true → large t ≡ true
  pub whole : (t k : ℕ) → same_tx txs t k ≡ true → small t ≡ true → large k ≡ true → small k ≡ true

-- ---- tables and entries

-- the table of that number, and whether there is one
abbrev pub table_in : CatalogueEvents → ℕ → Table
table_in cats x = table_at (tables_made cats) x

abbrev pub IsMade : CatalogueEvents → ℕ → Type 0
IsMade cats x = x < length (tables_made cats)

-- its rows lie in that leaf
abbrev pub HasLeaf : CatalogueEvents → ℕ → LeafId → Type 0
HasLeaf cats x leaf = IsMade cats x × ((table_in cats x).shape ≡ Leaf leaf)

-- a table is there: its birth counts, and no drop of it does
abbrev pub IsThere : CatalogueEvents → World → ℕ → Type 0
IsThere cats w x = IsMade cats x × (w (table_in cats x).by.number ≡ true) × ((u : ℕ) → IsDropped cats x u → w u ≡ false)

-- an entry is present: its birth counts, and no end of it does
abbrev pub Present : CatalogueEvents → World → Entry → Type 0
Present cats w e = IsEntry cats e × (w e.by.number ≡ true) × ((u : ℕ) → IsEntryEnd cats e.id.number u → w u ≡ false)

-- it is marked pending
abbrev pub IsPending : CatalogueEvents → World → Entry → Type 0
IsPending cats w e = (u : ℕ) × IsMark cats e.id.number u × (w u ≡ true)

-- x stands so many steps below the top
abbrev pub Under : CatalogueEvents → World → ℕ → ℕ → ℕ → Type 0
Under cats w zero top x = top ≡ x
Under cats w (suc n) top x = (e : Entry) × Present cats w e × (e.child.number ≡ x) × Under cats w n top e.parent.number

-- ---- which rows an entry accepts

abbrev pub key_in : TableShape → List Value → List Value
key_in (Leaf leaf) row = []
key_in (Level level) row = key_of level row

-- the key of a row at the level of a table
abbrev pub key_at : CatalogueEvents → ℕ → List Value → List Value
key_at cats x row = key_in (table_in cats x).shape row

-- a bound among those below a table: by itself, or it is DEFAULT and no bound of a sibling accepts the key
abbrev pub AcceptsKey : CatalogueEvents → World → ℕ → Bound → List Value → Type 0
AcceptsKey cats w parent b key = (accepts key b ≡ true) ⊎ ((is_default b ≡ true) × ((f : Entry) → Present cats w f → f.parent.number ≡ parent → accepts key f.bound ≡ false))

abbrev pub Accepts : CatalogueEvents → World → Entry → List Value → Type 0
Accepts cats w e row = AcceptsKey cats w e.parent.number e.bound (key_at cats e.parent.number row)

-- each entry above the table accepts the row
abbrev pub AcceptAbove : CatalogueEvents → World → ℕ → List Value → Type 0
AcceptAbove cats w x row = (e : Entry) (n : ℕ) → Present cats w e → Under cats w n e.child.number x → Accepts cats w e row
