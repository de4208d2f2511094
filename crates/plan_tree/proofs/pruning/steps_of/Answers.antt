use Rattle.std.proofs.Common.{List, [], ◌∷◌, ◌++◌, ap, ◌∙◌}
use Rattle.cond_logic.specs.Trees.{cond_tree}
use Rattle.prune_steps.specs.declared.pruning.Pruning.{Pruning}
use Rattle.plan_tree.proofs.Asked.{one_step}
use Rattle.plan_tree.proofs.pruning.steps_of.Goals as goal

pub returns : goal.returns
returns c =
    one_step c.in_ok-new.field-0 c.args.item (cond_tree c.args.cond.now) c.push.new.self.items c.in_ok-new.ensures.item c.in_ok-new.ensures.condition
    (c.in_ok-push.ensures.items ∙ ap (λ (ps : List Pruning). ps ++ c.in_ok-new.field-0 ∷ []) c.new-steps.ensures.items)
