-- Rows that were placed below a partitioned table may be stored in their leaves.
use Rattle.std.proofs.Common.{◌≡◌, ℕ, ◌<◌, List, [], ap, sym, ◌∙◌, subst, arith, Some, None, Ok, All, find, length}
use Rattle.std.specs.List.{Contains}
use Rattle.std.proofs.lemmas.List.Elements.{All-contains}
use Rattle.pg_values.specs.declared.value.Value.{Value}
use Rattle.pg_values.specs.declared.ids.LeafId.{LeafId}
use Rattle.pg_values.specs.declared.ids.TableNo.{TableNo}
use Rattle.bound_forms.specs.declared.level.Level.{Level as OneLevel}
use Rattle.history.specs.declared.catalogue.TableShape.TheVariants.{Level}
use Rattle.history.specs.Snapshots.{TakenSnapshot}
use Rattle.history.specs.Transactions.{open_of}
use Rattle.history.specs.Rows.{leaf_count}
use Rattle.history.specs.Catalogue.{tables_made}
use Rattle.history.specs.History.{History, tx_events, row_events, catalogue_events}
use Rattle.history.specs.Places.{table_at}
use Rattle.history.specs.Presence.{entries_shown}
use Rattle.row_router.specs.declared.path_part.PathPart.{PathPart}
use Rattle.row_router.specs.Histories.{tree_of, path_of, table_of}
use Rattle.row_router.specs.Trees.{TableTree, routed}
use Rattle.row_router.specs.declared.path.PathTest.TheVariants.{Bounds, Checks}
use Rattle.row_router.specs.Paths.{refused}
use Rattle.row_change.specs.declared.target.Target.{Target}
use Rattle.row_change.specs.Laws.{IsRowIn, IsMade}
use Rattle.row_change.specs.Placing.{placed, tables_of}
use Rattle.row_change.specs.Storing.{IsLeafKnown, is_into, leaf_faults}
use Rattle.row_change.specs.Targets.{HasTarget, HasWay, IsTargetOf}
use Rattle.row_change.specs.Ways.{AllTables, root, ways_below}
use Rattle.row_change.proofs.Ways.{all_below}
use Rattle.soundness.specs.Worlds.{HasLeaf}
use Rattle.soundness.specs.Columns.{IsOfTable}
use Rattle.soundness.proofs.All.{legal_keeps_all}
use Rattle.legal_statements.specs.Locked.{IsWritable}
use Rattle.legal_statements.specs.Tables.{LeavesAreThere}
use Rattle.stores.specs.Events.{look_of}
use Rattle.stores.specs.Stand.{Stands}
use Rattle.stores.specs.declared.stores.Stores.{Stores}
use Rattle.stores.proofs.Calls.{look_is_past}
use Rattle.stores.proofs.Commands.{look_is_own}
use Rattle.stores.proofs.Goodness.{legal_of, permitted_of}
use Rattle.stores.proofs.Housed.{leaves_are_housed}
use Rattle.statement_steps.specs.Attempts.{MayAttempt}
use Rattle.statement_steps.specs.declared.caller.Caller.{Caller}
use Rattle.statement_steps.proofs.Parts.{own_tx}
use Rattle.statement_steps.specs.Rights.{MayWrite}
use Rattle.statement_steps.proofs.Rights.{tables_kept, shown_made}
use Rattle.insert_statement.specs.Asked.{Each, ArePlaced, MayGo, MayPut, MayStore}
use Rattle.insert_statement.proofs.Pairs.{each_all, each_with}
use Rattle.insert_statement.proofs.Passing.{holder_passes}
use Rattle.insert_statement.proofs.Placed.{targets_take}
use Rattle.row_change.proofs.Trees.{AtHome, Child, IsHome, tree_are, tree_root}
use Rattle.row_change.proofs.Told.{found_target, one_told}
use Rattle.row_change.proofs.Placed.{IsPlaced, is_placed}
use Rattle.row_change.proofs.Passing.{none_refuses}
use Rattle.insert_statement.proofs.Ways.{way_ends_below, in_ways, each_placed}

-- ---- one row

-- the row is one of the table's columns and may go into the leaf, by which it gets a place below the table
pub record HasWayDown (h : History) (s table : ℕ) (look : TakenSnapshot) (leaf : LeafId) (row : List Value) : Type 0 where
  pub columns : IsOfTable (catalogue_events h) table row
  pub placed : refused Bounds row (path_of h s table) ≡ None
  pub routed : routed row (tree_of h s table look) ≡ Ok leaf
  pub locked : (x : ℕ) → HasLeaf (catalogue_events h) x leaf → IsWritable h s x
  pub there : leaf.number < leaf_count (row_events h)

-- and it does, where it passes the CHECKs there
goes_where_passed : (h : History) (s table : ℕ) (look : TakenSnapshot) (leaf : LeafId) (row : List Value) → HasWayDown h s table look leaf row → ((x : ℕ) → HasLeaf (catalogue_events h) x leaf → refused Checks row (path_of h s x) ≡ None) → MayGo h s table look leaf row
goes_where_passed h s table look leaf row way passes = record { columns = way.columns; placed = way.placed; routed = way.routed; passes = passes; locked = way.locked; there = way.there }

-- what is known of the tree in the history
pub record Known (h : History) (s : ℕ) (tree : TableTree) (path : List PathPart) (table : ℕ) (look : TakenSnapshot) : Type 0 where
  pub is_tree : tree ≡ tree_of h s table look
  pub is_path : path ≡ path_of h s table
  pub made : table < length (tables_made (catalogue_events h))
  pub shown : All (Child (IsMade h)) (entries_shown h s look)
  pub level : OneLevel
  pub is_level : (table_at (tables_made (catalogue_events h)) table).shape ≡ Level level
  pub one_home : (x y : ℕ) (l : LeafId) → HasLeaf (catalogue_events h) x l → HasLeaf (catalogue_events h) y l → x ≡ y
  pub there : LeavesAreThere h

goes_down : (h : History) (s : ℕ) (tree : TableTree) (path : List PathPart) (table : ℕ) (look : TakenSnapshot) (rows : List (List Value)) (leaf : LeafId) (row : List Value) → Known h s tree path table look → IsOfTable (catalogue_events h) table row → All (λ t. IsWritable h s t.number) (ways_below tree rows)
    → Contains rows row → IsPlaced (tables_of h) tree path leaf row → HasWayDown h s table look leaf row
goes_down h s tree path table look rows leaf row known of writable at placed =
    let tables = tables_made (catalogue_events h) in
    let are = tree_are h s table look (IsMade h) known.shown known.made in
    let home = subst (AtHome (IsHome tables)) (sym known.is_tree) are.home in
    let all = subst (AllTables (IsMade h)) (sym known.is_tree) are.tables in
    let top : root tree ≡ table_of table = ap root known.is_tree ∙ tree_root h s table look in
    let shape = subst (λ (t : TableNo). (table_at tables t.number).shape ≡ Level known.level) (sym top) known.is_level in
    let end = way_ends_below tables row tree leaf known.level home shape placed.routed in
    let t = end.0 in
    let on = in_ways tree rows row t at end.2 in
    let may : IsWritable h s t.number = subst (λ (x : TableNo). IsWritable h s x.number) on.2 (writable on.0 t on.1) in
    let made : IsMade h t = subst (IsMade h) end.2.2 (all_below (IsMade h) row tree all end.2.0 t end.2.1) in
    let mine : HasLeaf (catalogue_events h) t.number leaf = (made, end.1) in
    record {
      columns = of;
      placed = subst (λ p. refused Bounds row p ≡ None) known.is_path (none_refuses (tables_of h) row path placed.bounds);
      routed = subst (λ x. routed row x ≡ Ok leaf) known.is_tree placed.routed;
      locked = λ x own. subst (IsWritable h s) (known.one_home t.number x leaf mine own) may;
      there = known.there t.number leaf mine;
    }

-- ---- all of them

abbrev pub Goes : History → Caller → (table : ℕ) → LeafId → List Value → Type 0
Goes h caller t l r = HasWayDown h caller.session t (look_of h caller.session caller.cmd) l r

pub all_go : (stores : Stores) (caller : Caller) (tree : TableTree) (leaves : List LeafId) (rows : List (List Value)) (h : History) → Stands stores h → (are : ArePlaced stores.txs stores.catalog caller tree leaves rows) → MayWrite stores caller.session (ways_below tree rows)
    → Each (Goes h caller are.by_tree.table.number) leaves rows
all_go stores caller tree leaves rows h stands are writable =
    let s = caller.session in
    let it = are.by_tree in
    let look = look_of h s caller.cmd in
    let i = legal_keeps_all h (legal_of h stands.good) (permitted_of h stands.good) in
    let kept = tables_kept stores.catalog h stands.all.catalog in
    let below = it.known in
    let level = it.is_level h stands.all.catalog in
    let known : Known h s tree are.path it.table.number look = record {
      is_tree = it.read.is_tree h stands.all.txs stands.all.catalog;
      is_path = it.read.is_path h stands.all.txs stands.all.catalog;
      made = omega (arith, kept, below);
      shown = shown_made h s look stands.good;
      level = level.0;
      is_level = level.1;
      one_home = i.tables.one_home;
      there = λ x leaf at. leaves_are_housed h x leaf stands.good at;
    } in
    each_placed (placed (tables_of h) tree are.path) (Goes h caller it.table.number) rows leaves
    (λ l row at is. goes_down h s tree are.path it.table.number look rows l row known (All-contains (λ r. IsRowIn h r it.table) rows row (it.rows_of h stands.all.catalog) at).1 (writable h stands) at (is_placed (tables_of h) tree are.path row l is)) (are.placed h stands.all.catalog)

placed_may_put : (stores : Stores) (caller : Caller) (tree : TableTree) (leaves : List LeafId) (rows : List (List Value)) (targets : List Target) (h : History) (tx : ℕ) → Stands stores h → open_of (tx_events h) caller.session ≡ Some tx
    → ArePlaced stores.txs stores.catalog caller tree leaves rows → MayWrite stores caller.session (ways_below tree rows) → All (IsTargetOf h caller.session tree) targets → All (HasTarget targets) leaves → MayPut h caller.session targets leaves rows
placed_may_put stores caller tree leaves rows targets h tx stands mine are writable of told =
    let s = caller.session in
    let it = are.by_tree in
    let t = it.table.number in
    let look = look_of h s caller.cmd in
    let i = legal_keeps_all h (legal_of h stands.good) (permitted_of h stands.good) in
    let kept = tables_kept stores.catalog h stands.all.catalog in
    let below = it.known in
    let made : IsMade h (table_of t) = omega (arith, kept, below) in
    let passes : (l : LeafId) (row : List Value) → HasWay tree l × HasTarget targets l → leaf_faults (tables_of h) (find (is_into l) targets) row ≡ [] → (x : ℕ) → HasLeaf (catalogue_events h) x l → refused Checks row (path_of h s x) ≡ None =
    λ l row has none. holder_passes h s t look tree l row (it.read.is_tree h stands.all.txs stands.all.catalog) (shown_made h s look stands.good) made i.tables.one_home has.0
    (sym (one_told h s tree l targets row (found_target (IsTargetOf h s tree) l targets of has.1)) ∙ none) in
    record {
      table = t;
      look = look_of h s caller.cmd;
      made = omega (arith, kept, below);
      own_look = record { own = mine ∙ ap Some (sym (look_is_own h s tx caller.cmd stands.good mine)); past = look_is_past stores.txs h s caller.cmd stands.all.txs };
      go = each_with (Goes h caller t) (λ l row. leaf_faults (tables_of h) (find (is_into l) targets) row ≡ [] → MayGo h s t look l row) (λ l. HasWay tree l × HasTarget targets l) leaves rows
          (λ l row has goes none. goes_where_passed h s t look l row goes (passes l row has none)) (λ k d lt. (are.ways k d lt, told k d lt)) (all_go stores caller tree leaves rows h stands are writable);
    }

-- with a target for each leaf
pub placed_may_store : (stores : Stores) (caller : Caller) (tree : TableTree) (leaves : List LeafId) (rows : List (List Value)) (targets : List Target) → MayAttempt stores caller → ArePlaced stores.txs stores.catalog caller tree leaves rows → MayWrite stores caller.session (ways_below tree rows)
    → ((h : History) → Stands stores h → All (IsTargetOf h caller.session tree) targets) → All (HasTarget targets) leaves → MayStore stores caller.session targets leaves rows
placed_may_store stores caller tree leaves rows targets may are writable of told =
    let h = may.sound.0 in
    let stands = may.sound.1 in
    let take = targets_take stores caller tree are.path rows targets h stands are.by_tree (of h stands) in
    record {
      fits = take.fits;
      numbered = take.numbered;
      told = told;
      known = each_all (Goes h caller are.by_tree.table.number) (IsLeafKnown stores.rows.leaves) leaves rows (λ l row goes. subst (λ n. l.number < n) (sym stands.all.rows.leaves) goes.there) (all_go stores caller tree leaves rows h stands are writable);
      may = λ g stand. placed_may_put stores caller tree leaves rows targets g (own_tx stores caller g may stand).0 stand (own_tx stores caller g may stand).1 are writable (of g stand) told;
    }
