use Rattle.std.proofs.Common.{◌≡◌, ◌∙◌, ◌++◌, List, ap, map, sym, subst, Ok, Err}
use Rattle.pg_values.specs.Refusals.{IsAnswer}
use Rattle.pg_values.specs.declared.value.Value.{Value}
use Rattle.history.specs.History.{History}
use Rattle.part_catalog.specs.Stands.{CatalogueStands}
use Rattle.row_change.specs.Laws.{AreRowsOf}
use Rattle.pg_values.specs.declared.ids.LeafId.{LeafId}
use Rattle.pg_values.specs.declared.ids.TableNo.{TableNo}
use Rattle.pg_values.specs.declared.lock_mode.LockMode.TheVariants.{RowExclusive}
use Rattle.row_router.specs.Seen.{seen}
use Rattle.row_change.specs.Placing.{all_placed, tables_of}
use Rattle.row_change.specs.Ways.{ways_below}
use Rattle.stores.specs.declared.stores.Stores.{Stores}
use Rattle.statement_steps.specs.Asks.{all_locked}
use Rattle.statement_steps.specs.Faults.{stop_of}
use Rattle.statement_steps.proofs.Parts.{answered_refused}
use Rattle.statement_steps.proofs.Steps.{goes, handed_on, may_go_on, moved, stops}
use Rattle.statement_steps.specs.Rights.{IsReadOf}
use Rattle.statement_steps.proofs.Rights.{may_write}
use Rattle.insert_statement.specs.Inserted.{placed_rows, locked_into, into_leaves}
use Rattle.insert_statement.specs.Asked.{ArePlaced, IsTreeFor}
use Rattle.insert_statement.proofs.Placed.{takes}
use Rattle.insert_statement.proofs.Tables.{tree_locks}
use Rattle.insert_statement.proofs.Told.{placed_step, read_step}
use Rattle.insert_statement.proofs.Ways.{ways_low, ways_known}
use Rattle.insert_statement.proofs.partitions.store_by_tree.Goals as goal

pub leaves_and_ways-requires-clause-fits : goal.leaves_and_ways-requires-clause-fits
leaves_and_ways-requires-clause-fits c =
    (takes c.args.stores.now c.args.attempt.now.caller (seen c.args.tree) c.deref.result.now c.deref-2.result.now c.requires.may.sound.0 c.requires.may.sound.1
    (record { table = c.args.table; known = c.requires.there.made; rows_of = subst (AreRowsOf c.args.stores.now.catalog c.args.table) (sym c.deref-2.ensures.value) c.requires.rows; is_level = c.requires.level; read = subst (IsReadOf c.args.stores.now.txs c.args.stores.now.catalog c.args.attempt.now.caller c.args.table (seen c.args.tree)) (sym c.deref.ensures.value) c.requires.read })).fits

pub leaves_and_ways-requires-clause-path : goal.leaves_and_ways-requires-clause-path
leaves_and_ways-requires-clause-path c =
    (takes c.args.stores.now c.args.attempt.now.caller (seen c.args.tree) c.deref.result.now c.args.rows.items c.requires.may.sound.0 c.requires.may.sound.1
    (record { table = c.args.table; known = c.requires.there.made; rows_of = c.requires.rows; is_level = c.requires.level; read = subst (IsReadOf c.args.stores.now.txs c.args.stores.now.catalog c.args.attempt.now.caller c.args.table (seen c.args.tree)) (sym c.deref.ensures.value) c.requires.read })).above

pub leaves_and_ways-requires-clause-known : goal.leaves_and_ways-requires-clause-known
leaves_and_ways-requires-clause-known c =
    (takes c.args.stores.now c.args.attempt.now.caller (seen c.args.tree) c.deref.result.now c.args.rows.items c.requires.may.sound.0 c.requires.may.sound.1
    (record { table = c.args.table; known = c.requires.there.made; rows_of = c.requires.rows; is_level = c.requires.level; read = subst (IsReadOf c.args.stores.now.txs c.args.stores.now.catalog c.args.attempt.now.caller c.args.table (seen c.args.tree)) (sym c.deref.ensures.value) c.requires.read })).known

pub lock_tables-requires-clause-known : goal.lock_tables-requires-clause-known
lock_tables-requires-clause-known c =
    let ways = c.deref-3.ensures.value ∙ (c.in_ok-leaves.ensures.tables ∙ (ap (λ (ts : List TableNo). ts ++ ways_below (seen c.args.tree) c.deref-2.result.now) c.new-ways.ensures.items ∙ ap (ways_below (seen c.args.tree)) c.deref-2.ensures.value)) in
    ways_low c.args.stores.now c.args.attempt.now.caller.session (seen c.args.tree) c.args.rows.items c.deref-3.result.now ways
    (tree_locks c.args.stores.now c.args.attempt.now.caller c.args.table (seen c.args.tree) c.args.path.items c.requires.may c.requires.few c.requires.there c.requires.read)

pub lock_tables-requires-clause-there : goal.lock_tables-requires-clause-there
lock_tables-requires-clause-there c =
    let ways = c.deref-3.ensures.value ∙ (c.in_ok-leaves.ensures.tables ∙ (ap (λ (ts : List TableNo). ts ++ ways_below (seen c.args.tree) c.deref-2.result.now) c.new-ways.ensures.items ∙ ap (ways_below (seen c.args.tree)) c.deref-2.ensures.value)) in
    ways_known c.args.stores.now c.args.attempt.now.caller.session (seen c.args.tree) c.args.rows.items c.deref-3.result.now ways
    (tree_locks c.args.stores.now c.args.attempt.now.caller c.args.table (seen c.args.tree) c.args.path.items c.requires.may c.requires.few c.requires.there c.requires.read)

pub store_in_leaves-requires-clause-may : goal.store_in_leaves-requires-clause-may
store_in_leaves-requires-clause-may c = may_go_on _ _ _ _ _ _ c.requires.may c.in_ok-lock_tables.ensures.step

pub store_in_leaves-requires-clause-placed : goal.store_in_leaves-requires-clause-placed
store_in_leaves-requires-clause-placed c =
    let tree = seen c.args.tree in
    let rows = c.args.rows.items in
    let for_table : IsTreeFor c.args.stores.now.txs c.args.stores.now.catalog c.args.attempt.now.caller tree c.deref.result.now rows = record {
      table = c.args.table;
      known = c.requires.there.made;
      rows_of = c.requires.rows;
      is_level = c.requires.level;
      read = subst (IsReadOf c.args.stores.now.txs c.args.stores.now.catalog c.args.attempt.now.caller c.args.table tree) (sym c.deref.ensures.value) c.requires.read;
    } in
    subst (λ (s : Stores). ArePlaced s.txs s.catalog c.args.attempt.now.caller tree c.as_slice.result.now rows) (sym c.lock_tables.ensures.rest)
    (subst (λ ls. ArePlaced c.args.stores.now.txs c.args.stores.now.catalog c.args.attempt.now.caller tree ls rows) (sym c.as_slice.ensures)
    (record { path = c.deref.result.now; by_tree = for_table; placed = subst (λ (rs : List (List Value)). (h : History) → CatalogueStands c.args.stores.now.catalog h → all_placed (tables_of h) tree c.deref.result.now rs ≡ Ok c.in_ok-leaves.leaves) c.deref-2.ensures.value c.in_ok-leaves.ensures.told; ways = c.in_ok-leaves.ensures.ways }))

pub store_in_leaves-requires-clause-locked : goal.store_in_leaves-requires-clause-locked
store_in_leaves-requires-clause-locked c =
    let ways = c.deref-3.ensures.value ∙ (c.in_ok-leaves.ensures.tables ∙ (ap (λ (ts : List TableNo). ts ++ ways_below (seen c.args.tree) c.deref-2.result.now) c.new-ways.ensures.items ∙ ap (ways_below (seen c.args.tree)) c.deref-2.ensures.value)) in
    may_write c.args.attempt.now.names.now c.args.stores.now c.lock_tables.new.stores c.args.attempt.now.caller (ways_below (seen c.args.tree) c.args.rows.items) c.requires.may
    (moved (λ ts. all_locked c.args.attempt.now.names.now c.args.attempt.now.caller.session RowExclusive (map (λ (t : TableNo). t.number) ts)) _ _ ways c.in_ok-lock_tables.ensures.step)

pub returns-in_err-leaves : goal.returns-in_err-leaves
returns-in_err-leaves c =
    let tree = seen c.args.tree in
    let path = c.deref.result.now in
    let rows = c.args.rows.items in
    handed_on c.from_residual.ensures.1
    (read_step c.args.attempt.now.names.now (Err (stop_of c.in_err-leaves.field-0.0)) c.args.stores.now c.args.stores.now c.args.attempt.now.caller c.args.table tree path rows (subst (IsReadOf c.args.stores.now.txs c.args.stores.now.catalog c.args.attempt.now.caller c.args.table tree) (sym c.deref.ensures.value) c.requires.read)
    (stops (placed_rows tree path rows) (λ ls. locked_into c.args.attempt.now.names.now c.args.attempt.now.caller tree ls rows)
    (answered_refused (λ (ls : List LeafId). ls) c.in_err-leaves.field-0.0 c.args.stores.now c.args.attempt.now.caller c.args.attempt.now.caller.cmd (λ h. all_placed (tables_of h) tree path rows) c.requires.may (λ h stands. subst (λ (rs : List (List Value)). IsAnswer {T = List LeafId} (Err c.in_err-leaves.field-0.0) (all_placed (tables_of h) tree path rs)) c.deref-2.ensures.value (c.in_err-leaves.ensures.told h stands.all.catalog)))))

pub returns-in_err-lock_tables : goal.returns-in_err-lock_tables
returns-in_err-lock_tables c =
    let tree = seen c.args.tree in
    let path = c.deref.result.now in
    let rows = c.args.rows.items in
    let ways = c.deref-3.ensures.value ∙ (c.in_ok-leaves.ensures.tables ∙ (ap (λ (ts : List TableNo). ts ++ ways_below tree c.deref-2.result.now) c.new-ways.ensures.items ∙ ap (ways_below tree) c.deref-2.ensures.value)) in
    handed_on c.from_residual-in_err-lock_tables.ensures.1
    (placed_step c.args.attempt.now.names.now (Err c.in_err-lock_tables.field-0.0) c.args.stores.now c.lock_tables.new.stores c.args.attempt.now.caller c.args.table tree path c.in_ok-leaves.leaves rows c.requires.may
    (subst (IsReadOf c.args.stores.now.txs c.args.stores.now.catalog c.args.attempt.now.caller c.args.table tree) (sym c.deref.ensures.value) c.requires.read) (subst (λ (rs : List (List Value)). (h : History) → CatalogueStands c.args.stores.now.catalog h → all_placed (tables_of h) tree path rs ≡ Ok c.in_ok-leaves.leaves) c.deref-2.ensures.value c.in_ok-leaves.ensures.told)
    (stops (all_locked c.args.attempt.now.names.now c.args.attempt.now.caller.session RowExclusive (map (λ (t : TableNo). t.number) (ways_below tree rows))) (λ u. into_leaves c.args.attempt.now.caller tree c.in_ok-leaves.leaves rows)
    (moved (λ ts. all_locked c.args.attempt.now.names.now c.args.attempt.now.caller.session RowExclusive (map (λ (t : TableNo). t.number) ts)) _ _ ways c.in_err-lock_tables.ensures.step)))

pub returns : goal.returns
returns c =
    let tree = seen c.args.tree in
    let path = c.deref.result.now in
    let rows = c.args.rows.items in
    let ways = c.deref-3.ensures.value ∙ (c.in_ok-leaves.ensures.tables ∙ (ap (λ (ts : List TableNo). ts ++ ways_below tree c.deref-2.result.now) c.new-ways.ensures.items ∙ ap (ways_below tree) c.deref-2.ensures.value)) in
    placed_step c.args.attempt.now.names.now c.store_in_leaves.result c.args.stores.now c.store_in_leaves.new.stores c.args.attempt.now.caller c.args.table tree path c.in_ok-leaves.leaves rows c.requires.may
    (subst (IsReadOf c.args.stores.now.txs c.args.stores.now.catalog c.args.attempt.now.caller c.args.table tree) (sym c.deref.ensures.value) c.requires.read) (subst (λ (rs : List (List Value)). (h : History) → CatalogueStands c.args.stores.now.catalog h → all_placed (tables_of h) tree path rs ≡ Ok c.in_ok-leaves.leaves) c.deref-2.ensures.value c.in_ok-leaves.ensures.told)
    (goes (all_locked c.args.attempt.now.names.now c.args.attempt.now.caller.session RowExclusive (map (λ (t : TableNo). t.number) (ways_below tree rows))) (λ u. into_leaves c.args.attempt.now.caller tree c.in_ok-leaves.leaves rows)
    (moved (λ ts. all_locked c.args.attempt.now.names.now c.args.attempt.now.caller.session RowExclusive (map (λ (t : TableNo). t.number) ts)) _ _ ways c.in_ok-lock_tables.ensures.step)
    (moved (λ ls. into_leaves c.args.attempt.now.caller tree ls rows) _ _ c.as_slice.ensures c.store_in_leaves.ensures))
