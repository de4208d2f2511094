use Rattle.std.proofs.Common.{◌∙◌, ◌≤◌, [], ap, length, sym, subst, Ok}
use Rattle.pg_values.specs.declared.lock_mode.LockMode.TheVariants.{RowExclusive}
use Rattle.row_router.specs.Seen.{seen}
use Rattle.cond_logic.specs.Asked.{change_meant}
use Rattle.plan_tree.specs.Plans.{apart}
use Rattle.sql_ast.specs.declared.named_table.NamedTable.{NamedTable}
use Rattle.sql_binder.specs.Values.{values_of}
use Rattle.stores.specs.declared.stores.Stores.{Stores}
use Rattle.statement_steps.specs.Asks.{named}
use Rattle.statement_steps.specs.Gathered.{found_of}
use Rattle.statement_steps.specs.Made.{made}
use Rattle.statement_steps.specs.Steps.{IsStep}
use Rattle.statement_steps.proofs.Parts.{nothing_done}
use Rattle.statement_steps.proofs.Steps.{goes, handed_on, may_go_on, moved, out_behind, stops}
use Rattle.statement_steps.proofs.Rights.{may_write_named}
use Rattle.change_statement.specs.Gathered.{condition_of, found_by, locked, locked_all, meant, of_table, settings_of, table_named}
use Rattle.change_statement.specs.Kept.{keeps_for, tables_locked}
use Rattle.change_statement.specs.Running.{IsGathered}
use Rattle.change_statement.proofs.Found.{all_known, all_low, found_as, gathered_now, gathers, needed, read_prunable, rest_same}
use Rattle.change_statement.proofs.gathering.gather.Goals as goal

pub tree_and_path-requires-clause-may : goal.tree_and_path-requires-clause-may
tree_and_path-requires-clause-may c = may_go_on _ _ _ _ _ _ c.requires.may c.in_ok-table.ensures.step

pub tree_and_path-requires-clause-known : goal.tree_and_path-requires-clause-known
tree_and_path-requires-clause-known c = c.in_ok-table.ensures.known.made

pub bind-requires-clause-may : goal.bind-requires-clause-may
bind-requires-clause-may c = may_go_on _ _ _ _ _ _ c.requires.may c.in_ok-table.ensures.step

pub bind-requires-clause-known : goal.bind-requires-clause-known
bind-requires-clause-known c = c.in_ok-table.ensures.known.made

pub keep-requires : goal.keep-requires
keep-requires c =
    read_prunable c.trees_can_be_pruned.ensures c.lock_named.new.stores c.args.attempt.now.caller c.in_ok-table.table (seen c.in_ok-tree.tree) c.in_ok-tree.path.items (may_go_on _ _ _ _ _ _ c.requires.may c.in_ok-table.ensures.step) c.in_ok-table.ensures.known c.in_ok-tree.ensures

pub lock_tables-requires-clause-may : goal.lock_tables-requires-clause-may
lock_tables-requires-clause-may c = may_go_on _ _ _ _ _ _ c.requires.may c.in_ok-table.ensures.step

pub lock_tables-requires-clause-known : goal.lock_tables-requires-clause-known
lock_tables-requires-clause-known c =
    let mid = c.lock_named.new.stores in
    all_low mid c.args.attempt.now.caller.session c.deref-2.result.now (needed mid c.args.attempt.now.caller c.args.how.prunes c.in_ok-table.table (seen c.in_ok-tree.tree) c.in_ok-tree.path.items (change_meant c.in_ok-ask.ask) c.deref-2.result.now (c.deref-2.ensures.value ∙ c.in_ok-kept.ensures.tables)
    (may_go_on _ _ _ _ _ _ c.requires.may c.in_ok-table.ensures.step) (subst (λ (s : Stores). length s.catalog.tables ≤ 4096) (sym c.lock_named.ensures.rest) c.requires.few) c.in_ok-table.ensures.known c.in_ok-tree.ensures)

pub lock_tables-requires-clause-there : goal.lock_tables-requires-clause-there
lock_tables-requires-clause-there c =
    let mid = c.lock_named.new.stores in
    all_known mid c.args.attempt.now.caller.session c.deref-2.result.now (needed mid c.args.attempt.now.caller c.args.how.prunes c.in_ok-table.table (seen c.in_ok-tree.tree) c.in_ok-tree.path.items (change_meant c.in_ok-ask.ask) c.deref-2.result.now (c.deref-2.ensures.value ∙ c.in_ok-kept.ensures.tables)
    (may_go_on _ _ _ _ _ _ c.requires.may c.in_ok-table.ensures.step) (subst (λ (s : Stores). length s.catalog.tables ≤ 4096) (sym c.lock_named.ensures.rest) c.requires.few) c.in_ok-table.ensures.known c.in_ok-tree.ensures)

pub returns-in_err-table-clause-step : goal.returns-in_err-table-clause-step
returns-in_err-table-clause-step c =
    let find = named c.args.attempt.now.names.now c.args.attempt.now.caller.session RowExclusive in
    let table = table_named c.args.change in
    handed_on c.from_residual.ensures.1
    (stops (find table.name) (of_table c.args.how c.args.attempt.now.names.now c.args.params.now c.args.attempt.now.caller table (settings_of c.args.change) (condition_of c.args.change))
    (moved find _ _ (c.as_bytes-name.ensures ∙ ap (λ (t : NamedTable). t.name) c.table_named.ensures) c.in_err-table.ensures.step))

pub returns-in_err-tree-clause-step : goal.returns-in_err-tree-clause-step
returns-in_err-tree-clause-step c = out_behind c.from_residual-in_err-tree.ensures.1 c.in_ok-table.ensures.step

pub returns-in_err-ask-clause-step : goal.returns-in_err-ask-clause-step
returns-in_err-ask-clause-step c =
    let names = c.args.attempt.now.names.now in
    let caller = c.args.attempt.now.caller in
    let change = c.args.change in
    let t = c.in_ok-table.table.number in
    handed_on c.from_residual-in_err-ask.ensures.1
    (gathers c.args.how names c.args.params.now caller change (c.as_bytes-name.ensures ∙ ap (λ (t : NamedTable). t.name) c.table_named.ensures) c.in_ok-table.ensures.step c.in_ok-tree.ensures
    (stops (meant c.args.how c.args.params.now caller (table_named change) (settings_of change) (condition_of change) t) (locked c.args.how names caller (values_of (apart c.args.how c.args.params.now)) t (seen c.in_ok-tree.tree) c.in_ok-tree.path.items) c.in_err-ask.ensures))

pub returns-in_err-args-clause-step : goal.returns-in_err-args-clause-step
returns-in_err-args-clause-step c = out_behind c.from_residual-in_err-args.ensures.1 c.in_ok-table.ensures.step

pub returns-in_err-kept-clause-step : goal.returns-in_err-kept-clause-step
returns-in_err-kept-clause-step c = out_behind c.from_residual-in_err-kept.ensures.1 c.in_ok-table.ensures.step

pub returns-in_err-ask-2-clause-step : goal.returns-in_err-ask-2-clause-step
returns-in_err-ask-2-clause-step c = out_behind c.from_residual-in_err-ask-2.ensures.1 c.in_ok-table.ensures.step

pub returns-in_err-lock_tables-clause-step : goal.returns-in_err-lock_tables-clause-step
returns-in_err-lock_tables-clause-step c =
    let names = c.args.attempt.now.names.now in
    let caller = c.args.attempt.now.caller in
    let change = c.args.change in
    let t = c.in_ok-table.table in
    let tree = seen c.in_ok-tree.tree in
    let path = c.in_ok-tree.path.items in
    let m = change_meant c.in_ok-ask.ask in
    let how = c.args.how in
    let args = values_of (apart how c.args.params.now) in
    let keeps = keeps_for how.prunes m.condition in
    handed_on c.from_residual-in_err-lock_tables.ensures.1
    (gathers c.args.how names c.args.params.now caller change (c.as_bytes-name.ensures ∙ ap (λ (t : NamedTable). t.name) c.table_named.ensures) c.in_ok-table.ensures.step c.in_ok-tree.ensures
    (goes (meant how c.args.params.now caller (table_named change) (settings_of change) (condition_of change) t.number) (locked how names caller args t.number tree path) c.in_ok-ask.ensures
    (stops (locked_all names caller (tables_locked keeps m.settings tree)) (λ u h. made [] (found_by how args t tree path m)) (moved (locked_all names caller) _ _ (c.deref-2.ensures.value ∙ c.in_ok-kept.ensures.tables) c.in_err-lock_tables.ensures.step))))

pub returns-in_err-lock_tables-clause-rest : goal.returns-in_err-lock_tables-clause-rest
returns-in_err-lock_tables-clause-rest c = rest_same c.args.stores.now c.lock_named.new.stores c.lock_tables.new.stores c.lock_named.ensures.rest c.lock_tables.ensures.rest

pub returns-clause-step : goal.returns-clause-step
returns-clause-step c =
    let names = c.args.attempt.now.names.now in
    let caller = c.args.attempt.now.caller in
    let change = c.args.change in
    let t = c.in_ok-table.table in
    let tree = seen c.in_ok-tree.tree in
    let path = c.in_ok-tree.path.items in
    let m = change_meant c.in_ok-ask.ask in
    let how = c.args.how in
    let args = values_of (apart how c.args.params.now) in
    let keeps = keeps_for how.prunes m.condition in
    let g = found_by how args t tree path m in
    let same = found_as how args c.deref.result.now t tree path m (change_meant c.in_ok-ask-2.ask) c.in_ok-kept.kept.leaves.items c.in_ok-kept.kept.moves (c.deref.ensures.value ∙ (c.in_ok-args.ensures ∙ ap values_of c.apart.ensures))
    c.in_ok-ask-2.ensures c.in_ok-kept.ensures.leaves c.in_ok-kept.ensures.moves in
    let locks : IsStep (λ (u : Unit {0}). u) (Ok tt) c.lock_named.new.stores c.lock_tables.new.stores caller caller.cmd (locked_all names caller (tables_locked keeps m.settings tree)) =
    moved (locked_all names caller) _ _ (c.deref-2.ensures.value ∙ c.in_ok-kept.ensures.tables) c.in_ok-lock_tables.ensures.step in
    gathers c.args.how names c.args.params.now caller change (c.as_bytes-name.ensures ∙ ap (λ (t : NamedTable). t.name) c.table_named.ensures) c.in_ok-table.ensures.step c.in_ok-tree.ensures
    (goes (meant how c.args.params.now caller (table_named change) (settings_of change) (condition_of change) t.number) (locked how names caller args t.number tree path) c.in_ok-ask.ensures
    (goes (locked_all names caller (tables_locked keeps m.settings tree)) (λ u h. made [] g) locks
    (nothing_done found_of _ _ caller (λ h. made [] g) (may_go_on _ _ _ _ _ _ (may_go_on _ _ _ _ _ _ c.requires.may c.in_ok-table.ensures.step) locks)
    (λ h stands. rw (c.from_vec.ensures, c.from_vec-2.ensures) (ap (λ x. made [] x) same)))))

pub returns-clause-found : goal.returns-clause-found
returns-clause-found c =
    let t = c.in_ok-table.table in
    let tree = seen c.in_ok-tree.tree in
    let path = c.in_ok-tree.path.items in
    let m = change_meant c.in_ok-ask.ask in
    let how = c.args.how in
    let args = values_of (apart how c.args.params.now) in
    let same = found_as how args c.deref.result.now t tree path m (change_meant c.in_ok-ask-2.ask) c.in_ok-kept.kept.leaves.items c.in_ok-kept.kept.moves (c.deref.ensures.value ∙ (c.in_ok-args.ensures ∙ ap values_of c.apart.ensures))
    c.in_ok-ask-2.ensures c.in_ok-kept.ensures.leaves c.in_ok-kept.ensures.moves in
    let name = c.as_bytes-name.ensures ∙ ap (λ (t : NamedTable). t.name) c.table_named.ensures in
    rw (c.from_vec.ensures, c.from_vec-2.ensures) (subst (IsGathered c.lock_tables.new.stores c.args.attempt.now.caller) same
    (gathered_now c.args.attempt.now.names.now c.lock_named.new.stores c.lock_tables.new.stores c.args.attempt.now.caller how args t tree path m c.deref-2.result.now (c.deref-2.ensures.value ∙ c.in_ok-kept.ensures.tables)
    (may_go_on _ _ _ _ _ _ c.requires.may c.in_ok-table.ensures.step) c.in_ok-table.ensures.known c.in_ok-tree.ensures
    (may_write_named c.args.attempt.now.names.now c.args.stores.now c.lock_named.new.stores c.args.attempt.now.caller (table_named c.args.change).name t c.requires.may (moved (named c.args.attempt.now.names.now c.args.attempt.now.caller.session RowExclusive) _ _ name c.in_ok-table.ensures.step))
    c.in_ok-lock_tables.ensures.step c.lock_tables.ensures.rest))

pub returns-clause-rest : goal.returns-clause-rest
returns-clause-rest c = rest_same c.args.stores.now c.lock_named.new.stores c.lock_tables.new.stores c.lock_named.ensures.rest c.lock_tables.ensures.rest
