use Rattle.ddl_steps.proofs.Below.{TreeLaws, all_low}
use Rattle.alter_table.proofs.AttachLocks.{family_there, family_step, family_is_locked}
use Rattle.alter_table.proofs.attached.lock_family.Goals as goal

pub lock_tables-requires-clause-known : goal.lock_tables-requires-clause-known
lock_tables-requires-clause-known c =
    let laws : TreeLaws = record { all = c.legal_keeps_all.ensures; listed = c.listed_is_there.ensures; known = c.there_is_known.ensures; whole = c.tree_is_whole.ensures } in
    all_low c.args.stores.now c.args.attempt.now.caller.session c.args.tables.now c.requires.few (family_there laws c.args.stores.now c.args.attempt.now.caller c.args.table.number c.args.tables.now c.requires.may c.requires.known c.requires.tables)

pub lock_tables-requires-clause-there : goal.lock_tables-requires-clause-there
lock_tables-requires-clause-there c =
    let laws : TreeLaws = record { all = c.legal_keeps_all.ensures; listed = c.listed_is_there.ensures; known = c.there_is_known.ensures; whole = c.tree_is_whole.ensures } in
    family_there laws c.args.stores.now c.args.attempt.now.caller c.args.table.number c.args.tables.now c.requires.may c.requires.known c.requires.tables

pub returns-clause-step : goal.returns-clause-step
returns-clause-step c = family_step c.args.attempt.now.names.now c.lock_tables.result c.args.stores.now c.lock_tables.new.stores c.args.attempt.now.caller c.args.table.number c.args.tables.now c.requires.tables c.lock_tables.ensures.step

pub returns-clause-locked : goal.returns-clause-locked
returns-clause-locked c =
    family_is_locked c.args.attempt.now.names.now c.lock_tables.result c.args.stores.now c.lock_tables.new.stores c.args.attempt.now.caller c.args.table.number c.args.tables.now c.requires.may c.lock_tables.ensures.rest c.requires.tables c.lock_tables.ensures.step
