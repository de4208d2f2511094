use Rattle.std.proofs.Common.{ap, ◌∙◌}
use Rattle.cond_logic.specs.Rewriting.{is_pushed, pushed}
use Rattle.cond_logic.specs.Trees.{cond_tree}
use Rattle.cond_logic.proofs.Pushed.{pushed_stands}
use Rattle.prune_steps.proofs.Knowing.{without_args}
use Rattle.prune_steps.proofs.pruning.Pruning.new.Goals as goal

pub invariant_of-result : goal.invariant_of-result
invariant_of-result c = record { inwards = ap is_pushed c.in_ok-cond.ensures ∙ pushed_stands (cond_tree c.in_ok-bind_params.field-0) }

pub returns-clause-condition : goal.returns-clause-condition
returns-clause-condition c = c.in_ok-cond.ensures ∙ ap pushed (c.in_ok-bind_params.ensures ∙ without_args (cond_tree c.args.cond.now))
