use Rattle.std.proofs.Common.{ap, map, ◌∙◌}
use Rattle.std.proofs.lemmas.Result.{IfOk-weaker}
use Rattle.cond_logic.specs.Trees.{cond_tree}
use Rattle.row_router.specs.Seen.{seen}
use Rattle.plan_tree.specs.Asks.{keeps_alone}
use Rattle.plan_tree.specs.Kept.{kept_leaves, kept_tables}
use Rattle.plan_tree.proofs.Asked.{none_asked, some_asked}
use Rattle.plan_tree.proofs.pruning.prune_item.Goals as goal

pub returns-then-not-prunes-clause-tables : goal.returns-then-not-prunes-clause-tables
returns-then-not-prunes-clause-tables c =
    IfOk-weaker c.prune_by.result _ _ (λ _ h. h ∙ ap (λ keeps. kept_tables keeps (seen c.args.tree.now)) (none_asked c.args.prunes c.args.item (map cond_tree c.args.conds.now) c.if-not-prunes.true)) c.prune_by.ensures.tables

pub returns-then-not-prunes-clause-leaves : goal.returns-then-not-prunes-clause-leaves
returns-then-not-prunes-clause-leaves c =
    IfOk-weaker c.prune_by.result _ _ (λ _ h. h ∙ ap (λ keeps. kept_leaves keeps (seen c.args.tree.now)) (none_asked c.args.prunes c.args.item (map cond_tree c.args.conds.now) c.if-not-prunes.true)) c.prune_by.ensures.leaves

pub returns-clause-tables : goal.returns-clause-tables
returns-clause-tables c =
    IfOk-weaker c.prune_by-2.result _ _
    (λ _ h. h ∙ ap (λ keeps. kept_tables keeps (seen c.args.tree.now)) (ap keeps_alone c.deref.ensures.value ∙ some_asked c.args.prunes c.in_ok-steps.steps.items c.args.item (map cond_tree c.args.conds.now) c.if-not-prunes.false c.in_ok-steps.ensures)) c.prune_by-2.ensures.tables

pub returns-clause-leaves : goal.returns-clause-leaves
returns-clause-leaves c =
    IfOk-weaker c.prune_by-2.result _ _
    (λ _ h. h ∙ ap (λ keeps. kept_leaves keeps (seen c.args.tree.now)) (ap keeps_alone c.deref.ensures.value ∙ some_asked c.args.prunes c.in_ok-steps.steps.items c.args.item (map cond_tree c.args.conds.now) c.if-not-prunes.false c.in_ok-steps.ensures)) c.prune_by-2.ensures.leaves
