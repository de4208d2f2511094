use Rattle.std.proofs.Common.{refl}
use Rattle.insert_statement.proofs.Told.{leaf_step, level_step}
use Rattle.insert_statement.proofs.statement.store_into.Goals as goal

pub leaf_of-requires : goal.leaf_of-requires
leaf_of-requires c = c.requires.there.made

pub store_in_leaf-requires-clause-known : goal.store_in_leaf-requires-clause-known
store_in_leaf-requires-clause-known c = c.requires.there.made

pub store_in_leaf-requires-clause-leaf : goal.store_in_leaf-requires-clause-leaf
store_in_leaf-requires-clause-leaf c = c.in-Some.ensures.leaf c.in-Some.leaf refl

pub store_below-requires-clause-level : goal.store_below-requires-clause-level
store_below-requires-clause-level c = c.in-None.ensures.level refl

pub returns-in-Some : goal.returns-in-Some
returns-in-Some c = leaf_step c.args.attempt.now.names.now c.store_in_leaf.result c.args.stores.now c.store_in_leaf.new.stores c.args.attempt.now.caller c.args.table c.in-Some.leaf c.args.rows.items (c.in-Some.ensures.leaf c.in-Some.leaf refl) c.store_in_leaf.ensures

pub returns-in-None : goal.returns-in-None
returns-in-None c = level_step c.args.attempt.now.names.now c.store_below.result c.args.stores.now c.store_below.new.stores c.args.attempt.now.caller c.args.table c.args.rows.items (c.in-None.ensures.level refl) c.store_below.ensures
