use Rattle.grammar.proofs.WholeLaws.{one_value}
use Rattle.sql_expressions.proofs.RuleLaws.{expression_law}
use Rattle.sql_expressions.proofs.laws.no_two_trees.Goals as goal

pub returns : goal.returns
returns c text tokens a b w v = one_value (expression_law text) tokens a b w v
