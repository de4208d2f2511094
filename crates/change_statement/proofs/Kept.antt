-- What was gathered stays, whatever rows are changed; and what the session may write.
use Rattle.std.proofs.Common.{◌≡◌, ℕ, zero, suc, ◌<◌, true, List, [], ◌∷◌, inl, inr, refl, ap, sym, ◌∙◌, subst, arith, Some, None, All, map, length, slice_index_or}
use Rattle.std.specs.List.{Contains}
use Rattle.pg_values.specs.declared.ids.LeafId.{LeafId}
use Rattle.pg_values.specs.declared.ids.TableNo.{TableNo}
use Rattle.pg_values.specs.declared.lock_mode.LockMode.{LockMode}
use Rattle.pg_values.specs.declared.lock_mode.LockMode.TheVariants.{RowExclusive, AccessExclusive}
use Rattle.history.specs.declared.catalogue.TableShape.TheVariants.{Leaf}
use Rattle.history.specs.Transactions.{open_of}
use Rattle.history.specs.Locks.{holds}
use Rattle.history.specs.Catalogue.{tables_made}
use Rattle.history.specs.History.{History, tx_events, lock_events, catalogue_events}
use Rattle.history.specs.Places.{table_at}
use Rattle.row_router.specs.declared.path_part.PathPart.{PathPart}
use Rattle.row_router.specs.Trees.{TableTree, leaves}
use Rattle.row_router.specs.Histories.{table_of}
use Rattle.part_catalog.specs.Kept.{KeptCatalogue, table_in}
use Rattle.row_store.specs.Kept.{KeptRows}
use Rattle.row_change.specs.Succession.{KeepsVersions}
use Rattle.statement_steps.specs.declared.rest.TargetRow.{TargetRow}
use Rattle.soundness.specs.Worlds.{HasLeaf}
use Rattle.soundness.proofs.All.{legal_keeps_all}
use Rattle.soundness.proofs.Presence.{all_more}
use Rattle.legal_statements.specs.Locked.{IsOwnTable, IsWritable}
use Rattle.stores.specs.Events.{look_of}
use Rattle.stores.specs.Stand.{Stands}
use Rattle.stores.specs.declared.stores.Stores.{Stores}
use Rattle.stores.proofs.Goodness.{legal_of, permitted_of}
use Rattle.stores.proofs.Housed.{leaves_are_housed}
use Rattle.statement_steps.specs.Attempts.{LocksStay}
use Rattle.statement_steps.specs.declared.caller.Caller.{Caller}
use Rattle.statement_steps.specs.Known.{IsKnownTo}
use Rattle.row_change.proofs.Trees.{Are, IsHome, tree_are}
use Rattle.row_change.specs.Laws.{IsMade}
use Rattle.statement_steps.specs.Gathered.{Found}
use Rattle.statement_steps.specs.Rights.{IsReadOf}
use Rattle.statement_steps.proofs.Rights.{tables_kept, shown_made}
use Rattle.change_statement.specs.Running.{IsGathered, IsTargetIn, MayRun, MayWriteIn}
use Rattle.change_statement.proofs.Homes.{Home, home_of}

-- ---- only rows have changed

abbrev pub OnlyRows : Stores → Stores → Type 0
OnlyRows old new = new ≡ record old { rows = new.rows }

-- nobody has lost a lock, and transactions and tables are as they were
pub record Stay (old new : Stores) : Type 0 where
  pub locks : LocksStay old new
  pub current : new.txs.current ≡ old.txs.current
  pub catalog : new.catalog ≡ old.catalog

held_moves : (old new : Stores) (g h : History) (s x : ℕ) (m : LockMode) → Stay old new → Stands old g → Stands new h → holds (lock_events g) s x m ≡ true → holds (lock_events h) s x m ≡ true
held_moves old new g h s x m stay before now held = sym (now.all.locks.tells.held s x m) ∙ stay.locks s x m (before.all.locks.tells.held s x m ∙ held)

same_tables : (old new : Stores) (g h : History) → Stay old new → Stands old g → Stands new h → tables_made (catalogue_events g) ≡ tables_made (catalogue_events h)
same_tables old new g h stay before now = sym before.all.catalog.tables ∙ (ap (λ (c : KeptCatalogue). map table_in c.tables) (sym stay.catalog) ∙ now.all.catalog.tables)

own_moves : (old new : Stores) (g h : History) (s x : ℕ) → Stay old new → Stands old g → Stands new h → IsOwnTable g s x → IsOwnTable h s x
own_moves old new g h s x stay before now own =
    let tables = same_tables old new g h stay before now in
    let open_in : open_of (tx_events h) s ≡ open_of (tx_events g) s = sym (now.all.txs.current s) ∙ (ap (λ c. slice_index_or c s None) stay.current ∙ before.all.txs.current s) in (
      subst (λ ts. x < length ts) tables own.0,
      open_in ∙ (own.1 ∙ ap (λ ts. Some (table_at ts x).by.number) tables),
    )

pub writable_moves : (old new : Stores) (g h : History) (s x : ℕ) → Stay old new → Stands old g → Stands new h → IsWritable g s x → IsWritable h s x
writable_moves old new g h s x stay before now (inl held) = inl (held_moves old new g h s x RowExclusive stay before now held)
writable_moves old new g h s x stay before now (inr (inl held)) = inr (inl (held_moves old new g h s x AccessExclusive stay before now held))
writable_moves old new g h s x stay before now (inr (inr own)) = inr (inr (own_moves old new g h s x stay before now own))

-- ---- targets

pub target_stays : (old new : KeptRows) (g : Found) (t : TargetRow) → KeepsVersions old new → IsTargetIn old g t → IsTargetIn new g t
target_stays old new g t keeps its =
    let there = its.there in
    let more = keeps.more in
    record {
      there = omega (arith, there, more);
      leaf = ap (λ v. v.leaf) (keeps.same t.id its.there) ∙ its.leaf;
      among = its.among;
    }

pub targets_stay : (old new : KeptRows) (g : Found) (ts : List TargetRow) → KeepsVersions old new → All (IsTargetIn old g) ts → All (IsTargetIn new g) ts
targets_stay old new g ts keeps all = all_more (IsTargetIn old g) (IsTargetIn new g) ts (λ t its. target_stays old new g t keeps its) all

-- ---- leaves at home

-- the tables of the tree are made, and each leaf is at home
pub homes_of : (stores : Stores) (caller : Caller) (t : TableNo) (tree : TableTree) (path : List PathPart) (h : History) → Stands stores h → IsKnownTo stores caller.session t.number → IsReadOf stores.txs stores.catalog caller t tree path → Are (IsMade h) (IsHome (tables_made (catalogue_events h))) tree
homes_of stores caller t tree path h stands there read =
    let look = look_of h caller.session caller.cmd in
    let kept = tables_kept stores.catalog h stands.all.catalog in
    let known = there.made in
    let made : IsMade h (table_of t.number) = omega (arith, kept, known) in
    subst (Are (IsMade h) (IsHome (tables_made (catalogue_events h)))) (sym (read.is_tree h stands.all.txs stands.all.catalog))
    (tree_are h caller.session t.number look (IsMade h) (shown_made h caller.session look stands.good) made)

pub tree_homes : (stores : Stores) (caller : Caller) (g : Found) (h : History) → Stands stores h → IsGathered stores caller g → Are (IsMade h) (IsHome (tables_made (catalogue_events h))) g.tree
tree_homes stores caller g h stands its = homes_of stores caller g.table g.tree g.path h stands its.known its.read

-- a leaf may be written where its table stands among such tables
pub home_written : (stores : Stores) (h : History) (s : ℕ) (tables : List TableNo) (leaf : LeafId) (x : ℕ) → Stands stores h → Home (IsMade h) (IsHome (tables_made (catalogue_events h))) tables leaf → All (λ t. IsWritable h s t.number) tables → HasLeaf (catalogue_events h) x leaf → IsWritable h s x
home_written stores h s tables leaf x stands home all at =
    let i = legal_keeps_all h (legal_of h stands.good) (permitted_of h stands.good) in
    let mine : HasLeaf (catalogue_events h) home.table.number leaf = (home.is, home.has) in
    let same : home.table.number ≡ x = i.tables.one_home home.table.number x leaf mine at in
    let may : IsWritable h s home.table.number = subst (λ (t : TableNo). IsWritable h s t.number) home.among.2 (all home.among.0 home.table home.among.1) in
    subst (IsWritable h s) same may

-- each leaf of the tree is there
pub leaf_is_there : (stores : Stores) (caller : Caller) (g : Found) (h : History) (leaf : LeafId) → Stands stores h → IsGathered stores caller g → Contains (leaves g.tree) leaf → leaf.number < stores.rows.leaves
leaf_is_there stores caller g h leaf stands its among =
    let are = tree_homes stores caller g h stands its in
    let home = home_of (IsMade h) (IsHome (tables_made (catalogue_events h))) g.tree leaf are.tables are.home among in
    subst (λ n. leaf.number < n) (sym stands.all.rows.leaves) (leaves_are_housed h home.table.number leaf stands.good (home.is, home.has))

-- what stands at a place does not depend on what stands past the end
at_place : (xs : List LeafId) (k : ℕ) (d e : LeafId) → k < length xs → slice_index_or xs k e ≡ slice_index_or xs k d
at_place [] k d e lt = absurd (omega (arith, lt))
at_place (x ∷ xs) zero d e lt = refl
at_place (x ∷ xs) (suc k) d e lt = at_place xs k d e (omega (arith, lt))

-- what holds of each that a list contains
pub each_of : (P : LeafId → Type 0) (xs : List LeafId) → ((x : LeafId) → Contains xs x → P x) → All P xs
each_of P xs each k d lt = each (slice_index_or xs k d) (k, lt, at_place xs k d (slice_index_or xs k d) lt)

pub one_of : (P : LeafId → Type 0) (xs : List LeafId) (x : LeafId) → Contains xs x → All P xs → P x
one_of P xs x at all = subst P at.2 (all at.0 x at.1)

pub leaves_there : (stores : Stores) (caller : Caller) (g : Found) (h : History) → Stands stores h → IsGathered stores caller g → All (λ l. l.number < stores.rows.leaves) g.leaves
leaves_there stores caller g h stands its = all_more (Contains (leaves g.tree)) (λ (l : LeafId). l.number < stores.rows.leaves) g.leaves (λ leaf among. leaf_is_there stores caller g h leaf stands its among) its.among
