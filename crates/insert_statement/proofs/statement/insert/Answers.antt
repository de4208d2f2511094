use Rattle.std.proofs.Common.{◌∙◌, ◌≤◌, ap, length, map, sym, subst}
use Rattle.pg_values.specs.declared.lock_mode.LockMode.TheVariants.{RowExclusive}
use Rattle.sql_ast.specs.Expressions.{trees}
use Rattle.stores.specs.declared.stores.Stores.{Stores}
use Rattle.statement_steps.specs.Asks.{held_at, named}
use Rattle.statement_steps.specs.Steps.{follow}
use Rattle.statement_steps.proofs.Steps.{goes, handed_on, may_go_on, moved, stops}
use Rattle.statement_steps.proofs.Rights.{may_write_named}
use Rattle.insert_statement.specs.Inserted.{gathered, into, rows_meant}
use Rattle.insert_statement.proofs.statement.insert.Goals as goal

pub lock_named-requires-clause-may : goal.lock_named-requires-clause-may
lock_named-requires-clause-may c = may_go_on _ _ _ _ _ _ c.requires.may c.in_ok-hold_if_repeatable.ensures.step

pub lock_named-requires-clause-few : goal.lock_named-requires-clause-few
lock_named-requires-clause-few c = subst (λ (s : Stores). length s.catalog.tables ≤ 4096) (sym c.hold_if_repeatable.ensures.rest) c.requires.few

pub rows_meant-requires-clause-may : goal.rows_meant-requires-clause-may
rows_meant-requires-clause-may c = may_go_on _ _ _ _ _ _ (may_go_on _ _ _ _ _ _ c.requires.may c.in_ok-hold_if_repeatable.ensures.step) c.in_ok-table.ensures.step

pub rows_meant-requires-clause-known : goal.rows_meant-requires-clause-known
rows_meant-requires-clause-known c = c.in_ok-table.ensures.known.made

pub store_into-requires-clause-may : goal.store_into-requires-clause-may
store_into-requires-clause-may c = may_go_on _ _ _ _ _ _ (may_go_on _ _ _ _ _ _ c.requires.may c.in_ok-hold_if_repeatable.ensures.step) c.in_ok-table.ensures.step

pub store_into-requires-clause-few : goal.store_into-requires-clause-few
store_into-requires-clause-few c =
    subst (λ (s : Stores). length s.catalog.tables ≤ 4096) (sym c.lock_named.ensures.rest) (subst (λ (s : Stores). length s.catalog.tables ≤ 4096) (sym c.hold_if_repeatable.ensures.rest) c.requires.few)

pub store_into-requires-clause-rows : goal.store_into-requires-clause-rows
store_into-requires-clause-rows c = c.in_ok-rows.ensures.of

pub store_into-requires-clause-locked : goal.store_into-requires-clause-locked
store_into-requires-clause-locked c =
    may_write_named c.args.attempt.now.names.now c.hold_if_repeatable.new.stores c.lock_named.new.stores c.args.attempt.now.caller c.args.statement.now.table c.in_ok-table.table (may_go_on _ _ _ _ _ _ c.requires.may c.in_ok-hold_if_repeatable.ensures.step)
    (moved (named c.args.attempt.now.names.now c.args.attempt.now.caller.session RowExclusive) _ _ c.as_bytes-name.ensures c.in_ok-table.ensures.step)

pub returns-in_err-table : goal.returns-in_err-table
returns-in_err-table c =
    let names = c.args.attempt.now.names.now in
    let caller = c.args.attempt.now.caller in
    let st = c.args.statement.now in
    handed_on c.from_residual-in_err-table.ensures.1
    (goes (held_at caller.level caller.session caller.cmd) (λ u. gathered names c.args.params.now caller st.table st.columns (map trees st.rows)) c.in_ok-hold_if_repeatable.ensures.step
    (stops (named names caller.session RowExclusive st.table) (λ t. follow (rows_meant c.args.params.now caller.session t st.columns (map trees st.rows)) (λ rows. into names caller t rows))
    (moved (named names caller.session RowExclusive) _ _ c.as_bytes-name.ensures c.in_err-table.ensures.step)))

pub returns-in_err-rows : goal.returns-in_err-rows
returns-in_err-rows c =
    let names = c.args.attempt.now.names.now in
    let caller = c.args.attempt.now.caller in
    let st = c.args.statement.now in
    let t = c.in_ok-table.table.number in
    handed_on c.from_residual-in_err-rows.ensures.1
    (goes (held_at caller.level caller.session caller.cmd) (λ u. gathered names c.args.params.now caller st.table st.columns (map trees st.rows)) c.in_ok-hold_if_repeatable.ensures.step
    (goes (named names caller.session RowExclusive st.table) (λ x. follow (rows_meant c.args.params.now caller.session x st.columns (map trees st.rows)) (λ rows. into names caller x rows))
    (moved (named names caller.session RowExclusive) _ _ c.as_bytes-name.ensures c.in_ok-table.ensures.step)
    (stops (rows_meant c.args.params.now caller.session t st.columns (map trees st.rows)) (λ rows. into names caller t rows) c.in_err-rows.ensures.step)))

pub returns : goal.returns
returns c =
    let names = c.args.attempt.now.names.now in
    let caller = c.args.attempt.now.caller in
    let st = c.args.statement.now in
    let t = c.in_ok-table.table.number in
    goes (held_at caller.level caller.session caller.cmd) (λ u. gathered names c.args.params.now caller st.table st.columns (map trees st.rows)) c.in_ok-hold_if_repeatable.ensures.step
    (goes (named names caller.session RowExclusive st.table) (λ x. follow (rows_meant c.args.params.now caller.session x st.columns (map trees st.rows)) (λ rows. into names caller x rows))
    (moved (named names caller.session RowExclusive) _ _ c.as_bytes-name.ensures c.in_ok-table.ensures.step)
    (goes (rows_meant c.args.params.now caller.session t st.columns (map trees st.rows)) (λ rows. into names caller t rows) c.in_ok-rows.ensures.step c.store_into.ensures))
