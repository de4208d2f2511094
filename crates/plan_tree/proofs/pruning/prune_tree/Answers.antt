use Rattle.std.proofs.Common.{List, [], ap, if◌then◌else◌, ◌∙◌}
use Rattle.std.proofs.lemmas.Result.{IfOk-weaker}
use Rattle.cond_logic.specs.Trees.{cond_tree}
use Rattle.row_router.specs.Seen.{seen}
use Rattle.prune_steps.specs.declared.pruning.Pruning.{Pruning}
use Rattle.plan_tree.specs.Asks.{keeps_alone}
use Rattle.plan_tree.specs.Kept.{kept_leaves, kept_tables}
use Rattle.plan_tree.proofs.Asked.{alone_is}
use Rattle.plan_tree.proofs.pruning.prune_tree.Goals as goal

pub returns-clause-tables : goal.returns-clause-tables
returns-clause-tables c =
    IfOk-weaker c.prune_by.result _ _ (λ _ h. h ∙ ap (λ keeps. kept_tables keeps (seen c.args.tree.now)) (ap keeps_alone (c.steps_for.ensures ∙ ap (λ (ps : List Pruning). if c.args.prunes then ps else []) c.deref.ensures.value) ∙ alone_is c.in_ok-steps.steps.items 0 (cond_tree c.args.cond.now) c.in_ok-steps.ensures c.args.prunes)) c.prune_by.ensures.tables

pub returns-clause-leaves : goal.returns-clause-leaves
returns-clause-leaves c =
    IfOk-weaker c.prune_by.result _ _ (λ _ h. h ∙ ap (λ keeps. kept_leaves keeps (seen c.args.tree.now)) (ap keeps_alone (c.steps_for.ensures ∙ ap (λ (ps : List Pruning). if c.args.prunes then ps else []) c.deref.ensures.value) ∙ alone_is c.in_ok-steps.steps.items 0 (cond_tree c.args.cond.now) c.in_ok-steps.ensures c.args.prunes)) c.prune_by.ensures.leaves
