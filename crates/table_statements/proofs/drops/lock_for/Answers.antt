use Rattle.std.proofs.Common.{◌≡◌, ◌∙◌, ◌<◌, sym, subst, All, List, Result, Ok, Err, IfOk, map}
use Rattle.pg_values.specs.declared.ids.TableNo.{TableNo}
use Rattle.pg_values.specs.declared.lock_mode.LockMode.TheVariants.{AccessExclusive}
use Rattle.stores.specs.declared.stores.Stores.{Stores}
use Rattle.statement_steps.specs.declared.stop.Stop.{Stop}
use Rattle.statement_steps.specs.Asks.{all_locked}
use Rattle.statement_steps.specs.Steps.{IsStep}
use Rattle.statement_steps.specs.Known.{IsKnownTo}
use Rattle.table_statements.specs.Asked.{MayDropTable}
use Rattle.statement_steps.proofs.Parts.{out_here}
use Rattle.ddl_steps.proofs.Below.{here_of, TreeLaws, all_low}
use Rattle.ddl_steps.proofs.Locks.{tables_locked}
use Rattle.table_statements.proofs.Left.{drop_step, locked_to_drop}
use Rattle.table_statements.proofs.drops.lock_for.Goals as goal
use Rattle.table_statements.proofs.drops.lock_for.Goals.{In_ok-tables}
use Rattle.table_statements.proofs.ToDrop.{to_lock_known}

pub tables_to_lock-requires-clause-siblings : goal.tables_to_lock-requires-clause-siblings
tables_to_lock-requires-clause-siblings c = c.trees_are_together.ensures c.args.stores.now c.requires.may.sound.0 c.args.attempt.now.caller.session c.requires.may.sound.1

laws : (c : In_ok-tables) → TreeLaws
laws c = record { all = c.legal_keeps_all.ensures; listed = c.listed_is_there.ensures; known = c.there_is_known.ensures; whole = c.tree_is_whole.ensures }

-- the tables are those that the session may ask for
known : (c : In_ok-tables) → All (λ t. IsKnownTo c.args.stores.now c.args.attempt.now.caller.session t.number) c.in_ok-tables.tables.items
known c =
    let h = c.requires.may.sound.0 in
    let stands = c.requires.may.sound.1 in
    let here = here_of c.args.stores.now c.args.attempt.now.caller h c.requires.may stands in
    let are = c.in_ok-tables.ensures h stands.all.txs stands.all.catalog in
    subst (λ (ts : List TableNo). All (λ t. IsKnownTo c.args.stores.now c.args.attempt.now.caller.session t.number) ts) (sym are) (to_lock_known (laws c) c.args.stores.now h c.args.attempt.now.caller.session here.0 c.args.table.number stands here.1 c.requires.known)

pub lock_tables-requires-clause-known : goal.lock_tables-requires-clause-known
lock_tables-requires-clause-known c = subst (λ (ts : List TableNo). All (λ t. t.number < 4096) ts) (sym c.deref.ensures.value) (all_low c.args.stores.now c.args.attempt.now.caller.session c.in_ok-tables.tables.items c.requires.few (known (goal.at.lock_tables-requires-clause-known c).In_ok-tables))

pub lock_tables-requires-clause-there : goal.lock_tables-requires-clause-there
lock_tables-requires-clause-there c = subst (λ (ts : List TableNo). All (λ t. IsKnownTo c.args.stores.now c.args.attempt.now.caller.session t.number) ts) (sym c.deref.ensures.value) (known (goal.at.lock_tables-requires-clause-there c).In_ok-tables)

pub returns-clause-step : goal.returns-clause-step
returns-clause-step c =
    drop_step c.args.attempt.now.names.now c.lock_tables.result c.args.stores.now c.lock_tables.new.stores c.args.attempt.now.caller c.args.table.number c.deref.result.now
    (λ h txs catalog. c.deref.ensures.value ∙ c.in_ok-tables.ensures h txs catalog) c.lock_tables.ensures.step

-- what is locked may be dropped
locks : (c : In_ok-tables) (new : Stores) (tables : List TableNo) (r : Result (Unit {0}) Stop) → tables ≡ c.in_ok-tables.tables.items → new ≡ record c.args.stores.now { locks = new.locks }
    → IsStep (λ (u : Unit {0}). u) r c.args.stores.now new c.args.attempt.now.caller c.args.attempt.now.caller.cmd (all_locked c.args.attempt.now.names.now c.args.attempt.now.caller.session AccessExclusive (map (λ t. t.number) tables)) → IfOk r (λ u. MayDropTable new c.args.attempt.now.caller.session c.args.table)
locks c new tables (Ok u) are rest step =
    locked_to_drop (laws c) c.args.stores.now new c.args.attempt.now.caller c.args.table tables c.requires.may rest c.requires.known.made (λ h txs catalog. are ∙ c.in_ok-tables.ensures h txs catalog)
    (tables_locked c.args.attempt.now.names.now c.args.stores.now new c.args.attempt.now.caller tables c.requires.may step)
locks c new tables (Err e) are rest step = tt

pub returns-clause-drop : goal.returns-clause-drop
returns-clause-drop c = locks (goal.at.returns-clause-drop c).In_ok-tables c.lock_tables.new.stores c.deref.result.now c.lock_tables.result c.deref.ensures.value c.lock_tables.ensures.rest c.lock_tables.ensures.step

pub returns-in_err-tables-clause-step : goal.returns-in_err-tables-clause-step
returns-in_err-tables-clause-step c = out_here c.from_residual.ensures.1
