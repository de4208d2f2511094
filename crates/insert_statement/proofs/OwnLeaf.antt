-- Rows of a table that holds rows itself may be stored there.
use Rattle.std.proofs.Common.{◌≡◌, ℕ, ◌<◌, true, if◌then◌else◌, List, [], ◌∷◌, ap, sym, ◌∙◌, subst, arith, Some, None, Ok, All, find, map, length, slice_index_or}
use Rattle.std.proofs.lemmas.List.Elements.{All-nil, All-cons, All-head}
use Rattle.pg_values.specs.declared.value.Value.{Value}
use Rattle.pg_values.specs.declared.ids.LeafId.{LeafId}
use Rattle.pg_values.specs.declared.ids.TableNo.{TableNo}
use Rattle.history.specs.declared.catalogue.Table.{Table}
use Rattle.history.specs.declared.catalogue.TableShape.{TableShape}
use Rattle.history.specs.declared.catalogue.TableShape.TheVariants.{Leaf}
use Rattle.history.specs.Snapshots.{TakenSnapshot}
use Rattle.history.specs.Transactions.{open_of}
use Rattle.history.specs.Rows.{leaf_count}
use Rattle.history.specs.Catalogue.{tables_made}
use Rattle.history.specs.History.{History, tx_events, row_events, catalogue_events}
use Rattle.history.specs.Places.{table_at}
use Rattle.history.specs.Presence.{entries_shown}
use Rattle.row_router.specs.Histories.{tree_of, tree_within, path_of, grown, node_at, children, bound_of, child_of_entry}
use Rattle.row_router.specs.Trees.{routed}
use Rattle.part_catalog.specs.Found.{made_at}
use Rattle.part_catalog.specs.Stands.{CatalogueStands}
use Rattle.row_router.specs.declared.path.PathTest.TheVariants.{Bounds, Checks}
use Rattle.row_router.specs.Paths.{refused, PartFits}
use Rattle.row_change.specs.declared.target.Target.{Target}
use Rattle.row_change.specs.Laws.{IsRowIn, AreRowsOf}
use Rattle.row_change.specs.Placing.{bounds_faults, IsPartNumbered, tables_of}
use Rattle.row_change.specs.Storing.{is_into, leaf_faults, own_null_faults, check_faults, IsLeafKnown, IsTargetNumbered}
use Rattle.row_change.specs.Targets.{HasTarget}
use Rattle.row_change.proofs.Fit.{paths_fit}
use Rattle.row_change.proofs.Made.{paths_are_made}
use Rattle.row_change.proofs.Passing.{nothing_behind, taken_passes, none_refuses}
use Rattle.soundness.specs.Worlds.{HasLeaf}
use Rattle.soundness.proofs.All.{legal_keeps_all}
use Rattle.soundness.proofs.OneLeaf.{sessions_have_siblings}
use Rattle.legal_statements.specs.Locked.{IsWritable}
use Rattle.stores.specs.Events.{look_of}
use Rattle.stores.specs.Stand.{AllStand, Stands}
use Rattle.stores.specs.declared.stores.Stores.{Stores}
use Rattle.stores.proofs.Calls.{look_is_past}
use Rattle.stores.proofs.Commands.{look_is_own}
use Rattle.stores.proofs.Goodness.{legal_of, permitted_of}
use Rattle.stores.proofs.Housed.{leaves_are_housed}
use Rattle.statement_steps.specs.Attempts.{MayAttempt}
use Rattle.statement_steps.specs.declared.caller.Caller.{Caller}
use Rattle.statement_steps.proofs.Parts.{own_tx}
use Rattle.statement_steps.specs.Rights.{MayWrite}
use Rattle.statement_steps.proofs.Rights.{tables_kept}
use Rattle.insert_statement.specs.Asked.{IsOwnTarget, MayGo, MayPut, MayStore}
use Rattle.insert_statement.proofs.Pairs.{each_all, each_of, each_same}
use Rattle.insert_statement.proofs.Targets.{own_found, own_has}

-- ---- the tree is the table alone

routed_here : (h : History) (s t : ℕ) (look : TakenSnapshot) (leaf : LeafId) (row : List Value) → (table_at (tables_made (catalogue_events h)) t).shape ≡ Leaf leaf → routed row (tree_of h s t look) ≡ Ok leaf
unfolding tree_of
routed_here h s t look leaf row shape =
    let tables = tables_made (catalogue_events h) in
    let entries = entries_shown h s look in
    ap (λ (sh : TableShape). routed row (grown sh (node_at tables t t) (map bound_of (children entries t)) (map (λ e. tree_within 6 tables entries t (child_of_entry e)) (children entries t)))) shape

-- ---- one row

-- where nothing stands against it, the bounds do not
only_faults : (tables : List Table) (target : Target) (row : List Value) → target.is_named ≡ true → leaf_faults tables (Some target) row ≡ [] → bounds_faults tables target.path row ≡ []
only_faults tables target row named none =
    let behind = nothing_behind (own_null_faults tables target.table row) _ none in
    let last = nothing_behind (check_faults tables target.path row) _ behind in
    subst (λ n. (if n then bounds_faults tables target.path row else []) ≡ []) named last

-- what is known of the table in the history
record Known (h : History) (s t : ℕ) (leaf : LeafId) : Type 0 where
  mine : HasLeaf (catalogue_events h) t leaf
  one_home : (x y : ℕ) (l : LeafId) → HasLeaf (catalogue_events h) x l → HasLeaf (catalogue_events h) y l → x ≡ y
  there : leaf.number < leaf_count (row_events h)
  writable : IsWritable h s t

one_goes : (h : History) (s : ℕ) (t : TableNo) (look : TakenSnapshot) (leaf : LeafId) (target : Target) (row : List Value) → IsOwnTarget h s t leaf target → Known h s t.number leaf → IsRowIn h row t → leaf_faults (tables_of h) (find (is_into leaf) (target ∷ [])) row ≡ [] → MayGo h s t.number look leaf row
one_goes h s t look leaf target row is known of none =
    let faults : leaf_faults (tables_of h) (Some target) row ≡ [] = ap (λ o. leaf_faults (tables_of h) o row) (sym (own_found leaf target is.leaf_is)) ∙ none in
    record {
      columns = of.1;
      placed = subst (λ p. refused Bounds row p ≡ None) is.path (none_refuses (tables_of h) row target.path (only_faults (tables_of h) target row is.is_named faults));
      routed = routed_here h s t.number look leaf row known.mine.1;
      passes = λ x own. subst (λ n. refused Checks row (path_of h s n) ≡ None) (known.one_home t.number x leaf known.mine own)
          (subst (λ p. refused Checks row p ≡ None) is.path (taken_passes (tables_of h) target.table target.path target.is_named row faults));
      locked = λ x own. subst (IsWritable h s) (known.one_home t.number x leaf known.mine own) known.writable;
      there = known.there;
    }

-- ---- all of them

-- what is asked where rows go into the leaf of the table
pub record IsInto (stores : Stores) (session : ℕ) (t : TableNo) (leaf : LeafId) (target : Target) (rows : List (List Value)) : Type 0 where
  pub known : t.number < length stores.catalog.tables
  pub leaf_is : (h : History) → CatalogueStands stores.catalog h → (made_at h t.number).shape ≡ Leaf leaf
  pub target_is : (h : History) → AllStand stores h → IsOwnTarget h session t leaf target
  pub rows_of : AreRowsOf stores.catalog t rows
  pub locked : MayWrite stores session (t ∷ [])

own_leaf : (stores : Stores) (s : ℕ) (t : TableNo) (leaf : LeafId) (target : Target) (rows : List (List Value)) (h : History) → Stands stores h → IsInto stores s t leaf target rows → HasLeaf (catalogue_events h) t.number leaf
own_leaf stores s t leaf target rows h stands it =
    let kept = tables_kept stores.catalog h stands.all.catalog in
    let below = it.known in
    (omega (arith, kept, below), it.leaf_is h stands.all.catalog)

own_may_put : (stores : Stores) (s cmd tx : ℕ) (t : TableNo) (leaf : LeafId) (target : Target) (rows : List (List Value)) (h : History) → Stands stores h → open_of (tx_events h) s ≡ Some tx → IsInto stores s t leaf target rows → MayPut h s (target ∷ []) (map (λ row. leaf) rows) rows
own_may_put stores s cmd tx t leaf target rows h stands mine it =
    let i = legal_keeps_all h (legal_of h stands.good) (permitted_of h stands.good) in
    let look = look_of h s cmd in
    let has = own_leaf stores s t leaf target rows h stands it in
    let known : Known h s t.number leaf = record {
      mine = has;
      one_home = i.tables.one_home;
      there = leaves_are_housed h t.number leaf stands.good has;
      writable = All-head (λ (x : TableNo). IsWritable h s x.number) t [] (it.locked h stands);
    } in
    record {
      table = t.number;
      look = look;
      made = has.0;
      own_look = record { own = mine ∙ ap Some (sym (look_is_own h s tx cmd stands.good mine)); past = look_is_past stores.txs h s cmd stands.all.txs };
      go = each_of (λ l row. leaf_faults (tables_of h) (find (is_into l) (target ∷ [])) row ≡ [] → MayGo h s t.number look l row) (λ row. IsRowIn h row t) leaf rows (λ row of none. one_goes h s t look leaf target row (it.target_is h stands.all) known of none)
          (it.rows_of h stands.all.catalog);
    }

-- of the one leaf all is so that is so of it
same_all : (Q : LeafId → Type 0) (leaf : LeafId) (rows : List (List Value)) → Q leaf → All Q (map (λ row. leaf) rows)
same_all Q leaf rows q = each_all (λ l row. Q l) Q (map (λ row. leaf) rows) rows (λ l row is. is) (each_same (λ l row. Q l) leaf rows (λ row. q))

pub own_may_store : (stores : Stores) (caller : Caller) (t : TableNo) (leaf : LeafId) (target : Target) (rows : List (List Value)) → MayAttempt stores caller → IsInto stores caller.session t leaf target rows → MayStore stores caller.session (target ∷ []) (map (λ row. leaf) rows) rows
own_may_store stores caller t leaf target rows may it =
    let s = caller.session in
    let h = may.sound.0 in
    let stands = may.sound.1 in
    let n = length stores.catalog.tables in
    let sound = stands.all.catalog.sound in
    let siblings = sessions_have_siblings h s (legal_of h stands.good) (permitted_of h stands.good) in
    let same = tables_kept stores.catalog h stands.all.catalog in
    let is = it.target_is h stands.all in
    let has = own_leaf stores s t leaf target rows h stands it in
    let path : All (IsPartNumbered n) target.path = subst (λ pa. All (IsPartNumbered n) pa) (sym is.path) (subst (λ k. All (IsPartNumbered k) (path_of h s t.number)) (sym same) (paths_are_made h s t sound has.0)) in
    record {
      fits = λ i d lt. All-cons (λ (x : Target). All (PartFits (slice_index_or rows i d)) x.path) target []
          (subst (λ pa. All (PartFits (slice_index_or rows i d)) pa) (sym is.path) (paths_fit h s t (slice_index_or rows i d) sound siblings (it.rows_of h stands.all.catalog i d lt))) (All-nil (λ (x : Target). All (PartFits (slice_index_or rows i d)) x.path));
      numbered = All-cons (IsTargetNumbered n) target [] (subst (λ (x : TableNo). x.number < n) (sym is.table) it.known, path) (All-nil (IsTargetNumbered n));
      told = same_all (HasTarget (target ∷ [])) leaf rows (own_has leaf target is.leaf_is);
      known = same_all (IsLeafKnown stores.rows.leaves) leaf rows (subst (λ k. leaf.number < k) (sym stands.all.rows.leaves) (leaves_are_housed h t.number leaf stands.good has));
      may = λ g stand. own_may_put stores s caller.cmd (own_tx stores caller g may stand).0 t leaf target rows g stand (own_tx stores caller g may stand).1 it;
    }
