use Rattle.std.proofs.Common.{◌∙◌, ◌<◌, sym, subst, All, List}
use Rattle.pg_values.specs.declared.ids.TableNo.{TableNo}
use Rattle.stores.proofs.Standing.{trees_are_together}
use Rattle.statement_steps.specs.Known.{IsKnownTo}
use Rattle.statement_steps.proofs.Parts.{out_here}
use Rattle.table_statements.specs.Locked.{one_under}
use Rattle.table_statements.proofs.LocksBelow.{under_known, all_low}
use Rattle.table_statements.proofs.Locking.{under_step}
use Rattle.table_statements.proofs.under.lock_below.Goals as goal
use Rattle.table_statements.proofs.under.lock_below.Goals.{In_ok-tables}

pub tables_below-requires-clause-siblings : goal.tables_below-requires-clause-siblings
tables_below-requires-clause-siblings c = trees_are_together c.args.stores.now c.requires.may.sound.0 c.args.attempt.now.caller.session c.requires.may.sound.1

-- the tables are those that the session may ask for
known : (c : In_ok-tables) → All (λ t. IsKnownTo c.args.stores.now c.args.attempt.now.caller.session t.number) c.in_ok-tables.tables.items
known c =
    let h = c.requires.may.sound.0 in
    let stands = c.requires.may.sound.1 in
    subst (λ (ts : List TableNo). All (λ t. IsKnownTo c.args.stores.now c.args.attempt.now.caller.session t.number) ts) (sym (c.in_ok-tables.ensures h stands.all.txs stands.all.catalog)) (under_known c.args.stores.now c.args.attempt.now.caller h c.args.table.number c.requires.may stands c.requires.known)

pub lock_tables-requires-clause-known : goal.lock_tables-requires-clause-known
lock_tables-requires-clause-known c = subst (λ (ts : List TableNo). All (λ t. t.number < 4096) ts) (sym c.deref.ensures.value) (all_low c.args.stores.now c.args.attempt.now.caller.session c.in_ok-tables.tables.items c.requires.few (known (goal.at.lock_tables-requires-clause-known c).In_ok-tables))

pub lock_tables-requires-clause-there : goal.lock_tables-requires-clause-there
lock_tables-requires-clause-there c = subst (λ (ts : List TableNo). All (λ t. IsKnownTo c.args.stores.now c.args.attempt.now.caller.session t.number) ts) (sym c.deref.ensures.value) (known (goal.at.lock_tables-requires-clause-there c).In_ok-tables)

pub returns-clause-step : goal.returns-clause-step
returns-clause-step c =
    under_step c.args.attempt.now.names.now c.args.mode c.lock_tables.result c.args.stores.now c.lock_tables.new.stores c.args.attempt.now.caller c.args.table.number c.deref.result.now
    (λ h txs catalog. c.deref.ensures.value ∙ c.in_ok-tables.ensures h txs catalog) c.lock_tables.ensures.step

pub returns-in_err-tables-clause-step : goal.returns-in_err-tables-clause-step
returns-in_err-tables-clause-step c = out_here c.from_residual.ensures.1
