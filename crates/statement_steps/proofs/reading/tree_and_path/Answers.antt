use Rattle.stores.specs.Events.{look_of}
use Rattle.statement_steps.proofs.reading.tree_and_path.Goals as goal

pub tree-requires-clause-siblings : goal.tree-requires-clause-siblings
tree-requires-clause-siblings c = c.trees_are_together.ensures c.args.stores.now c.requires.may.sound.0 c.args.attempt.now.caller.session c.requires.may.sound.1

pub path-requires-clause-siblings : goal.path-requires-clause-siblings
path-requires-clause-siblings c = c.trees_are_together.ensures c.args.stores.now c.requires.may.sound.0 c.args.attempt.now.caller.session c.requires.may.sound.1

pub returns : goal.returns
returns c = record {
  is_tree = λ h txs catalog. c.in_ok-tree.ensures h (look_of h c.args.attempt.now.caller.session c.args.attempt.now.caller.cmd) txs catalog (c.look.ensures.past h txs) (c.in_ok-look.ensures.stands h txs);
  is_path = λ h txs catalog. c.in_ok-path.ensures h txs catalog;
}
