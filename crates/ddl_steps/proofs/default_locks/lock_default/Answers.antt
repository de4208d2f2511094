use Rattle.std.proofs.Common.{◌∙◌, ◌<◌, refl, sym, subst, All, List}
use Rattle.pg_values.specs.declared.ids.TableNo.{TableNo}
use Rattle.statement_steps.specs.Known.{IsKnownTo}
use Rattle.statement_steps.proofs.Parts.{out_here}
use Rattle.part_ddl.specs.Below.{default_of}
use Rattle.ddl_steps.proofs.Below.{here_of, TreeLaws, family_known, all_low}
use Rattle.ddl_steps.proofs.Beside.{default_is_locked, default_step}
use Rattle.ddl_steps.proofs.default_locks.lock_default.Goals as goal
use Rattle.ddl_steps.proofs.default_locks.lock_default.Goals.{In_ok-tables}

pub default_tables-requires-clause-siblings : goal.default_tables-requires-clause-siblings
default_tables-requires-clause-siblings c = c.trees_are_together.ensures c.args.stores.now c.requires.may.sound.0 c.args.attempt.now.caller.session c.requires.may.sound.1

-- the tables are those that the session may ask for
known : (c : In_ok-tables) → All (λ t. IsKnownTo c.args.stores.now c.args.attempt.now.caller.session t.number) c.in_ok-tables.tables.items
known c =
    let h = c.requires.may.sound.0 in
    let stands = c.requires.may.sound.1 in
    let here = here_of c.args.stores.now c.args.attempt.now.caller h c.requires.may stands in
    let laws : TreeLaws = record { all = c.legal_keeps_all.ensures; listed = c.listed_is_there.ensures; known = c.there_is_known.ensures; whole = c.tree_is_whole.ensures } in
    let are = c.in_ok-tables.ensures h stands.all.txs stands.all.catalog in
    let o = default_of h c.args.attempt.now.caller.session c.args.parent.number in
    subst (λ (ts : List TableNo). All (λ t. IsKnownTo c.args.stores.now c.args.attempt.now.caller.session t.number) ts) (sym are) (family_known laws c.args.stores.now h c.args.attempt.now.caller.session here.0 c.args.parent.number o stands here.1 refl)

pub lock_tables-requires-clause-known : goal.lock_tables-requires-clause-known
lock_tables-requires-clause-known c = subst (λ (ts : List TableNo). All (λ t. t.number < 4096) ts) (sym c.deref.ensures.value) (all_low c.args.stores.now c.args.attempt.now.caller.session c.in_ok-tables.tables.items c.requires.few (known (goal.at.lock_tables-requires-clause-known c).In_ok-tables))

pub lock_tables-requires-clause-there : goal.lock_tables-requires-clause-there
lock_tables-requires-clause-there c = subst (λ (ts : List TableNo). All (λ t. IsKnownTo c.args.stores.now c.args.attempt.now.caller.session t.number) ts) (sym c.deref.ensures.value) (known (goal.at.lock_tables-requires-clause-there c).In_ok-tables)

pub returns-clause-step : goal.returns-clause-step
returns-clause-step c =
    default_step c.args.attempt.now.names.now c.lock_tables.result c.args.stores.now c.lock_tables.new.stores c.args.attempt.now.caller c.args.parent.number c.deref.result.now
    (λ h txs catalog. c.deref.ensures.value ∙ c.in_ok-tables.ensures h txs catalog) c.lock_tables.ensures.step

pub returns-clause-locked : goal.returns-clause-locked
returns-clause-locked c =
    default_is_locked c.args.attempt.now.names.now c.lock_tables.result c.args.stores.now c.lock_tables.new.stores c.args.attempt.now.caller c.args.parent.number c.deref.result.now c.requires.may c.lock_tables.ensures.rest
    (λ h txs catalog. c.deref.ensures.value ∙ c.in_ok-tables.ensures h txs catalog) c.lock_tables.ensures.step

pub returns-in_err-tables-clause-step : goal.returns-in_err-tables-clause-step
returns-in_err-tables-clause-step c = out_here c.from_residual.ensures.1
