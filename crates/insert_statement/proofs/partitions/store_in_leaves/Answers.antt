use Rattle.std.proofs.Common.{◌+◌, sym, subst}
use Rattle.row_router.specs.Seen.{seen}
use Rattle.statement_steps.specs.Steps.{IsStep}
use Rattle.statement_steps.proofs.Parts.{out_here}
use Rattle.insert_statement.specs.Asked.{MayStore, put}
use Rattle.insert_statement.proofs.Below.{Goes, all_go, placed_may_store}
use Rattle.insert_statement.proofs.Placed.{takes}
use Rattle.insert_statement.proofs.Told.{leaves_step}
use Rattle.insert_statement.proofs.partitions.store_in_leaves.Goals as goal

pub leaf_targets-requires-clause-known : goal.leaf_targets-requires-clause-known
leaf_targets-requires-clause-known c =
    (takes c.args.stores.now c.args.attempt.now.caller (seen c.args.tree.now) c.requires.placed.path c.args.rows.items c.requires.may.sound.0 c.requires.may.sound.1 c.requires.placed.by_tree).known

pub leaf_targets-requires-clause-siblings : goal.leaf_targets-requires-clause-siblings
leaf_targets-requires-clause-siblings c = c.trees_are_together.ensures c.args.stores.now c.requires.may.sound.0 c.args.attempt.now.caller.session c.requires.may.sound.1

pub put_rows-requires-clause-rows : goal.put_rows-requires-clause-rows
put_rows-requires-clause-rows c =
    subst (λ ts. MayStore c.args.stores.now c.args.attempt.now.caller.session ts c.args.leaves.now c.args.rows.items) (sym c.deref.ensures.value)
    (placed_may_store c.args.stores.now c.args.attempt.now.caller (seen c.args.tree.now) c.args.leaves.now c.args.rows.items c.in_ok-targets.targets.items c.requires.may c.requires.placed c.requires.locked
    (λ h stands. c.in_ok-targets.ensures.targets h stands.all.txs stands.all.catalog) (λ i d lt. c.in_ok-targets.ensures.each i d lt (c.requires.placed.ways i d lt)))

pub returns : goal.returns
returns c =
    leaves_step (λ h. Goes h c.args.attempt.now.caller c.requires.placed.by_tree.table.number) c.put_rows.result c.args.stores.now c.put_rows.new.stores c.args.attempt.now.caller (seen c.args.tree.now) c.in_ok-targets.targets.items c.args.leaves.now c.args.rows.items
    (λ h stands. c.in_ok-targets.ensures.targets h stands.all.txs stands.all.catalog) (λ i d lt. c.in_ok-targets.ensures.each i d lt (c.requires.placed.ways i d lt))
    (λ h stands. all_go c.args.stores.now c.args.attempt.now.caller (seen c.args.tree.now) c.args.leaves.now c.args.rows.items h stands c.requires.placed c.requires.locked)
    (subst (λ ts. IsStep (λ (u : Unit {0}). u) c.put_rows.result c.args.stores.now c.put_rows.new.stores c.args.attempt.now.caller (c.args.attempt.now.caller.cmd + 1) (put ts c.args.attempt.now.caller c.args.leaves.now c.args.rows.items)) c.deref.ensures.value c.put_rows.ensures)

pub returns-in_err-targets : goal.returns-in_err-targets
returns-in_err-targets c = out_here c.from_residual.ensures.1
