use Rattle.cond_logic.specs.Trees.{cond_tree}
use Rattle.plan_tree.proofs.Conditions.{copied}
use Rattle.plan_tree.proofs.condition.copy_cond.Goals as goal

pub returns : goal.returns
returns c = copied c.bind_params.result (cond_tree c.args.cond.now) c.bind_params.ensures
