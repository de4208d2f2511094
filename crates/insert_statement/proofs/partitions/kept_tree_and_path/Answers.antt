use Rattle.std.proofs.Common.{ap}
use Rattle.stores.specs.Events.{look_of}
use Rattle.part_catalog.specs.Kept.{KeptCatalogue}
use Rattle.insert_statement.proofs.partitions.kept_tree_and_path.Goals as goal

pub path-requires-clause-siblings : goal.path-requires-clause-siblings
path-requires-clause-siblings c = c.trees_are_together.ensures c.args.stores.now c.requires.may.sound.0 c.args.attempt.now.caller.session c.requires.may.sound.1

pub keep_tree-requires-clause-siblings : goal.keep_tree-requires-clause-siblings
keep_tree-requires-clause-siblings c = c.trees_are_together.ensures c.args.stores.now c.requires.may.sound.0 c.args.attempt.now.caller.session c.requires.may.sound.1

pub returns-in_err-tree-clause-same : goal.returns-in_err-tree-clause-same
returns-in_err-tree-clause-same c = ap (λ (k : KeptCatalogue). record c.args.stores.now { catalog = k }) c.keep_tree.ensures.same

pub returns-clause-same : goal.returns-clause-same
returns-clause-same c = ap (λ (k : KeptCatalogue). record c.args.stores.now { catalog = k }) c.keep_tree.ensures.same

pub returns-clause-read : goal.returns-clause-read
returns-clause-read c = record {
  is_tree = λ h txs catalog. c.in_ok-tree.ensures.tree h (look_of h c.args.attempt.now.caller.session c.args.attempt.now.caller.cmd) txs catalog (c.look.ensures.past h txs) (c.in_ok-look.ensures.stands h txs);
  is_path = λ h txs catalog. c.in_ok-path.ensures h txs catalog;
}
