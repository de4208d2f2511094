use Rattle.std.proofs.lemmas.Result.{IfOk-weaker}
use Rattle.row_router.specs.Seen.{seen}
use Rattle.select_statement.proofs.Whole.{is_sound, tree_read, read_for}
use Rattle.select_statement.proofs.tables.read_tree.Goals as goal

pub keep_tree-requires-clause-known : goal.keep_tree-requires-clause-known
keep_tree-requires-clause-known c = c.requires.known.made

pub keep_tree-requires-clause-sound : goal.keep_tree-requires-clause-sound
keep_tree-requires-clause-sound c = is_sound c.args.stores.now c.args.caller c.requires.may

pub returns-clause-tree : goal.returns-clause-tree
returns-clause-tree c =
    IfOk-weaker c.keep_tree.result _ _ (λ t read. tree_read c.args.stores.now c.args.caller c.args.table.number (seen t) c.args.snap.now c.requires.look read) c.keep_tree.ensures.tree

pub returns-clause-fit : goal.returns-clause-fit
returns-clause-fit c =
    IfOk-weaker c.keep_tree.result _ _
    (λ t read. read_for c.leaves_are_housed.ensures c.trees_can_be_pruned.ensures c.args.stores.now c.args.caller c.args.table.number (seen t) c.requires.may c.requires.few c.requires.known
    (tree_read c.args.stores.now c.args.caller c.args.table.number (seen t) c.args.snap.now c.requires.look read)) c.keep_tree.ensures.tree
